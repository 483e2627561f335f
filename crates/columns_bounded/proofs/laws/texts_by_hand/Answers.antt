-- A text of ASCII, and bytes that are none: each outcome but one is excluded.
use Rattle.std.proofs.Common.{◌≡◌, ◌∙◌, ℕ, List, [], ◌∷◌, Result, Ok, Err, ap, refl, false, true}
use Rattle.std.specs.Prelude.{IsUtf8, codes, length}
use Rattle.std.specs.Str.{chars, is_utf8}
use Rattle.std.specs.Str.Lossy.{utf8_valid_len}
use Rattle.std.proofs.Math.Utf8.{encode}
use Rattle.std.proofs.lemmas.Str.{is_utf8-from_IsUtf8}
use Rattle.ansi_scan.specs.Pieces.{pieces, first_pieces, leading_piece, at_escape, sequence_front, opened, control_from, string_from, escape_from}
use Rattle.ansi_str.specs.StyledText.{strip}
use Rattle.bounded_output.specs.Filled.{filled}
use Rattle.columns_bounded.specs.Answers.{answer_of, status_of}
use Rattle.columns_bounded.specs.Texts.{IsStripped, IsTextWidth}
use Rattle.columns_bounded.specs.Worked.{tells}
use Rattle.columns_bounded.specs.declared.answer.Answer.{Answer}
use Rattle.columns_bounded.specs.declared.fault.AnswerFault.{AnswerFault}
use Rattle.columns_bounded.specs.declared.fault.AnswerFault.TheVariants.{Request as OfRequest, Colors as OfColors, Text as OfText, OverMaxSize}
use Rattle.program_options.specs.declared.columns.fault.RunFault.TheVariants.{Read, ReadTooLong, NotUtf8, Escape, Range, LineTooWide, Write, WriteZero, Memory}
use Rattle.grid_records_measure.specs.TextLines.{text_lines, text_width}
use Rattle.unicode_width.specs.Width.{alone, char_width, past_emoji, step, str_width}
use Rattle.columns_bounded.proofs.laws.texts_by_hand.Goals as goal

abbrev two_lines : List ℕ
two_lines = codes "\u{1b}[31mab\u{1b}[0m\nc\n"

abbrev no_text : List ℕ
no_text = 0x61 ∷ 0xff ∷ []

is-text : IsUtf8 two_lines
unfolding encode
is-text = (two_lines, (refl, refl))

is-none : IsUtf8 no_text → ⊥
unfolding is_utf8 chars encode
is-none text = let failed : false ≡ true = is_utf8-from_IsUtf8 no_text text in cc failed

widest : text_width two_lines ≡ 2
unfolding text_width text_lines str_width char_width alone step past_emoji pieces first_pieces leading_piece at_escape sequence_front opened control_from string_from escape_from chars encode
widest = refl

valid : utf8_valid_len no_text ≡ 1
unfolding utf8_valid_len is_utf8 chars encode
valid = refl

pub returns-clause-width : goal.returns-clause-width
returns-clause-width c = λ status answer told. by status answer told.outcome told.called_for told.told told.told_beside
  where
    by : (status : ℕ) (answer : Answer) (outcome : Result ℕ AnswerFault) → IsTextWidth two_lines outcome → status ≡ status_of outcome → answer ≡ answer_of outcome → (status ≡ 0) × (answer ≡ tells 2 0 0 0)
    by status answer (Ok columns) called is beside = (is, beside ∙ ap (λ n. tells n 0 0 0) (called.1 ∙ widest))
    by status answer (Err (OfText (NotUtf8 at))) called is beside = absurd (called.0 is-text)
    by status answer (Err (OfText Memory)) called is beside = absurd called
    by status answer (Err (OfText (Escape at))) called is beside = absurd called
    by status answer (Err (OfText Range)) called is beside = absurd called
    by status answer (Err (OfText (LineTooWide row column))) called is beside = absurd called
    by status answer (Err (OfText ReadTooLong)) called is beside = absurd called
    by status answer (Err (OfText Read)) called is beside = absurd called
    by status answer (Err (OfText Write)) called is beside = absurd called
    by status answer (Err (OfText WriteZero)) called is beside = absurd called
    by status answer (Err (OfRequest fault)) called is beside = absurd called
    by status answer (Err OfColors) called is beside = absurd called
    by status answer (Err OverMaxSize) called is beside = absurd called

pub returns-clause-no_width : goal.returns-clause-no_width
returns-clause-no_width c = λ status answer told. by status answer told.outcome told.called_for told.told told.told_beside
  where
    by : (status : ℕ) (answer : Answer) (outcome : Result ℕ AnswerFault) → IsTextWidth no_text outcome → status ≡ status_of outcome → answer ≡ answer_of outcome → (status ≡ 1) × (answer ≡ tells 0 1 0 0)
    by status answer (Ok columns) called is beside = absurd (is-none called.0)
    by status answer (Err (OfText (NotUtf8 at))) called is beside = (is, beside ∙ ap (λ n. tells 0 n 0 0) (called.1 ∙ valid))
    by status answer (Err (OfText Memory)) called is beside = absurd called
    by status answer (Err (OfText (Escape at))) called is beside = absurd called
    by status answer (Err (OfText Range)) called is beside = absurd called
    by status answer (Err (OfText (LineTooWide row column))) called is beside = absurd called
    by status answer (Err (OfText ReadTooLong)) called is beside = absurd called
    by status answer (Err (OfText Read)) called is beside = absurd called
    by status answer (Err (OfText Write)) called is beside = absurd called
    by status answer (Err (OfText WriteZero)) called is beside = absurd called
    by status answer (Err (OfRequest fault)) called is beside = absurd called
    by status answer (Err OfColors) called is beside = absurd called
    by status answer (Err OverMaxSize) called is beside = absurd called

abbrev styled : List ℕ
styled = codes "\u{1b}[31mab\u{1b}[0m"

shown : strip (pieces styled) ≡ codes "ab"
unfolding pieces first_pieces leading_piece at_escape sequence_front opened control_from string_from escape_from chars encode
shown = refl

succeeds : (text old new : List ℕ) (answer : Answer) (outcome : Result ℕ AnswerFault) → IsStripped text old new outcome → 0 ≡ status_of outcome → answer ≡ answer_of outcome
    → (answer ≡ tells (length (strip (pieces text))) 0 0 0) × (new ≡ filled old (strip (pieces text)))
succeeds text old new answer (Ok size) called is beside = (beside ∙ ap (λ n. tells n 0 0 0) called.1, called.2)
succeeds text old new answer (Err (OfText (NotUtf8 at))) called is beside = cc is
succeeds text old new answer (Err (OfText Memory)) called is beside = cc is
succeeds text old new answer (Err (OfText (Escape at))) called is beside = cc is
succeeds text old new answer (Err (OfText Range)) called is beside = cc is
succeeds text old new answer (Err (OfText (LineTooWide row column))) called is beside = cc is
succeeds text old new answer (Err (OfText ReadTooLong)) called is beside = cc is
succeeds text old new answer (Err (OfText Read)) called is beside = cc is
succeeds text old new answer (Err (OfText Write)) called is beside = cc is
succeeds text old new answer (Err (OfText WriteZero)) called is beside = cc is
succeeds text old new answer (Err (OfRequest fault)) called is beside = absurd called.0
succeeds text old new answer (Err OfColors) called is beside = absurd called.0
succeeds text old new answer (Err OverMaxSize) called is beside = cc is

pub returns-clause-stripped : goal.returns-clause-stripped
returns-clause-stripped c = λ new answer told.
    let both = succeeds styled (codes "xyz") new answer told.outcome told.called_for told.told told.told_beside in
    (both.0 ∙ ap (λ bytes. tells (length bytes) 0 0 0) shown, both.1 ∙ ap (filled (codes "xyz")) shown)

pub returns-clause-no_room : goal.returns-clause-no_room
returns-clause-no_room c = λ new answer told.
    let both = succeeds styled (codes "x") new answer told.outcome told.called_for told.told told.told_beside in
    (both.0 ∙ ap (λ bytes. tells (length bytes) 0 0 0) shown, both.1 ∙ ap (filled (codes "x")) shown)

pub returns-clause-not_stripped : goal.returns-clause-not_stripped
returns-clause-not_stripped c = λ old new status answer told. by old new status answer told.outcome told.called_for told.told told.told_beside
  where
    by : (old new : List ℕ) (status : ℕ) (answer : Answer) (outcome : Result ℕ AnswerFault) → IsStripped no_text old new outcome → status ≡ status_of outcome → answer ≡ answer_of outcome
        → (status ≡ 1) × (answer ≡ tells 0 1 0 0) × (new ≡ old)
    by old new status answer (Ok size) called is beside = absurd (is-none called.0)
    by old new status answer (Err (OfText (NotUtf8 at))) called is beside = (is, beside ∙ ap (λ n. tells 0 n 0 0) (called.0.1 ∙ valid), called.1)
    by old new status answer (Err (OfText Memory)) called is beside = absurd (is-none called.0)
    by old new status answer (Err (OfText (Escape at))) called is beside = absurd called.0
    by old new status answer (Err (OfText Range)) called is beside = absurd called.0
    by old new status answer (Err (OfText (LineTooWide row column))) called is beside = absurd called.0
    by old new status answer (Err (OfText ReadTooLong)) called is beside = absurd called.0
    by old new status answer (Err (OfText Read)) called is beside = absurd called.0
    by old new status answer (Err (OfText Write)) called is beside = absurd called.0
    by old new status answer (Err (OfText WriteZero)) called is beside = absurd called.0
    by old new status answer (Err (OfRequest fault)) called is beside = absurd called.0
    by old new status answer (Err OfColors) called is beside = absurd called.0
    by old new status answer (Err OverMaxSize) called is beside = absurd called.0
