-- The table of one cell, in its colours and without, and what is reported of it.
use Rattle.std.proofs.Common.{◌≡◌, ◌≢◌, ◌∙◌, ℕ, List, [], ◌∷◌, Option, None, Some, Result, Ok, Err, ap, arith, length, refl, subst, sym}
use Rattle.std.specs.Prelude.{codes, replicate}
use Rattle.std.specs.Fmt.{digits}
use Rattle.std.specs.Str.{chars, is_utf8}
use Rattle.std.proofs.Math.Utf8.{encode}
use Rattle.ansi_scan.specs.Attributes.{plain_attributes}
use Rattle.ansi_scan.specs.Pieces.{pieces, first_pieces, leading_piece, at_escape, sequence_front, opened, control_from, string_from, escape_from}
use Rattle.ansi_scan.specs.Rendition.{applied, after_parameters}
use Rattle.ansi_scan.specs.StartsAndEnds.{start_bytes, start_sequences, end_bytes, end_sequences}
use Rattle.bounded_output.specs.Filled.{filled}
use Rattle.columns_asked.specs.Bytes.{cut_at, wrapped_text}
use Rattle.columns_asked.specs.Colors.ColoredTables.{colored_text}
use Rattle.columns_asked.specs.Colors.Worked.{red}
use Rattle.columns_asked.specs.DrawnTables.{asked_widths, resized_rows}
use Rattle.columns_asked.specs.Shrunk.{shrunk_list}
use Rattle.columns_bounded.specs.Answers.{IsOutcome, IsTable, Tells, answer_of, status_of}
use Rattle.columns_bounded.specs.Requests.{colors_in, most_by, wanted_in}
use Rattle.columns_bounded.specs.Worked.{asks, greatest_64, tells}
use Rattle.columns_bounded.specs.declared.answer.Answer.{Answer}
use Rattle.columns_bounded.specs.declared.fault.AnswerFault.{AnswerFault}
use Rattle.columns_bounded.specs.declared.fault.AnswerFault.TheVariants.{Request as OfRequest, Colors as OfColors, Text as OfText, OverMaxSize}
use Rattle.columns_bounded.specs.declared.request.Request.{Request}
use Rattle.columns_bounded.proofs.Refusals.{accepted-clash}
use Rattle.columns_bounded.proofs.Sizes.{of-request, of-text}
use Rattle.columns_run.specs.DrawnTables.{output_of}
use Rattle.grid_config.specs.Colors.{Color}
use Rattle.grid_config_values.specs.Spans.Spans.{extent_at}
use Rattle.grid_records_estimate.specs.Estimates.{track_sizes}
use Rattle.grid_records_estimate.specs.Sizes.{table_heights, table_widths}
use Rattle.grid_records_measure.specs.TextLines.{text_height, text_lines, text_width}
use Rattle.program_options.specs.declared.columns.fault.RunFault.TheVariants.{Read, ReadTooLong, NotUtf8, Escape, Range, LineTooWide, Write, WriteZero, Memory}
use Rattle.unicode_width.specs.Width.{alone, char_width, past_emoji, step, str_width}
use Rattle.columns_bounded.proofs.laws.tables_by_hand.Goals as goal

-- a table with status 0: its whole size is reported, and it is written as far as it fits
drawn : (request : Request) (list : Option (List ℕ)) (colors : List (ℕ × Color)) (text old new : List ℕ) (answer : Answer) → colors_in list ≡ Some colors →
    Tells request list text old new 0 answer →
    (answer ≡ tells (length (output_of (wanted_in request colors) text)) 0 0 0) × (new ≡ filled old (output_of (wanted_in request colors) text))
drawn request list colors text old new answer listed told = by told.outcome told.called_for told.told told.told_beside
  where
    by : (outcome : Result ℕ AnswerFault) → IsOutcome request list text old new outcome → 0 ≡ status_of outcome → answer ≡ answer_of outcome →
        (answer ≡ tells (length (output_of (wanted_in request colors) text)) 0 0 0) × (new ≡ filled old (output_of (wanted_in request colors) text))
    by (Ok size) called is beside =
        let table : IsTable (wanted_in request called.1.0) (most_by request.max_size) text old new (Ok size) = called.1.2 in
        let both : Some called.1.0 ≡ Some colors = sym called.1.1 ∙ listed in
        let same : called.1.0 ≡ colors = cc both in
        subst (λ (found : List (ℕ × Color)). (answer ≡ tells (length (output_of (wanted_in request found) text)) 0 0 0) × (new ≡ filled old (output_of (wanted_in request found) text)))
        same (beside ∙ ap (λ n. tells n 0 0 0) table.1, table.3)
    by (Err (OfRequest fault)) called is beside = absurd (let least = of-request fault in omega (arith, is, least))
    by (Err OfColors) called is beside = absurd (omega (arith, is))
    by (Err OverMaxSize) called is beside = absurd (omega (arith, is))
    by (Err (OfText fault)) called is beside = absurd (let least = (of-text fault).0 in omega (arith, is, least))

abbrev one_request : Request
one_request = asks 0 greatest_64 0 0 0

plain : output_of (wanted_in one_request []) (codes "a\n") ≡ codes "+---+\n| a |\n+---+\n"
unfolding output_of colored_text resized_rows asked_widths shrunk_list wrapped_text cut_at table_widths table_heights track_sizes text_width text_height extent_at str_width char_width alone step past_emoji pieces first_pieces leading_piece at_escape sequence_front opened control_from string_from escape_from text_lines applied after_parameters plain_attributes start_bytes start_sequences end_bytes end_sequences digits chars encode
plain = refl

colored : output_of (wanted_in one_request ((0, red) ∷ [])) (codes "a\n") ≡ codes "+---+\n| \u{1b}[31ma\u{1b}[39m |\n+---+\n"
unfolding output_of colored_text resized_rows asked_widths shrunk_list wrapped_text cut_at table_widths table_heights track_sizes text_width text_height extent_at str_width char_width alone step past_emoji pieces first_pieces leading_piece at_escape sequence_front opened control_from string_from escape_from text_lines applied after_parameters plain_attributes start_bytes start_sequences end_bytes end_sequences digits chars encode
colored = refl

of-red : colors_in (Some (codes "0=red")) ≡ Some ((0, red) ∷ [])
unfolding is_utf8 chars encode
of-red = refl

of-pink : colors_in (Some (codes "0=pink")) ≡ None
unfolding is_utf8 chars encode
of-pink = refl

pub returns-clause-no_room : goal.returns-clause-no_room
returns-clause-no_room c = λ new answer told.
    let both = drawn one_request None [] (codes "a\n") (codes "xyz") new answer refl told in
    (both.0 ∙ ap (λ bytes. tells (length bytes) 0 0 0) plain, both.1 ∙ ap (filled (codes "xyz")) plain)

pub returns-clause-colored : goal.returns-clause-colored
returns-clause-colored c = λ new answer told.
    let both = drawn one_request (Some (codes "0=red")) ((0, red) ∷ []) (codes "a\n") (replicate 30 0x2e) new answer of-red told in
    (both.0 ∙ ap (λ bytes. tells (length bytes) 0 0 0) colored, both.1 ∙ ap (filled (replicate 30 0x2e)) colored)

-- there are no colours in it
none-found : {A : Type 0} (colors : List (ℕ × Color)) → colors_in (Some (codes "0=pink")) ≡ Some colors → A
none-found colors found = let both : None ≡ Some colors = sym of-pink ∙ found in cc both

pub returns-clause-no_list : goal.returns-clause-no_list
returns-clause-no_list c = λ old new status answer told other. by old new status answer other told.outcome told.called_for told.told told.told_beside
  where
    by : (old new : List ℕ) (status : ℕ) (answer : Answer) → status ≢ 5 → (outcome : Result ℕ AnswerFault) → IsOutcome one_request (Some (codes "0=pink")) (codes "a\n") old new outcome →
        status ≡ status_of outcome → answer ≡ answer_of outcome → (status ≡ 39) × (answer ≡ tells 0 0 0 0) × (new ≡ old)
    by old new status answer other (Ok size) called is beside = none-found called.1.0 called.1.1
    by old new status answer other (Err (OfRequest fault)) called is beside =
        absurd (accepted-clash one_request fault (record { version = refl; style = omega arith; priority = omega arith; truncate = omega arith; keep_words = omega arith; reserved = (refl, refl) }) called.0)
    by old new status answer other (Err OfColors) called is beside = (is, beside, called.2)
    by old new status answer other (Err OverMaxSize) called is beside = none-found called.1.0 called.1.1
    by old new status answer other (Err (OfText Memory)) called is beside = absurd (other is)
    by old new status answer other (Err (OfText (NotUtf8 at))) called is beside = none-found called.1.0 called.1.1
    by old new status answer other (Err (OfText (Escape at))) called is beside = none-found called.1.0 called.1.1
    by old new status answer other (Err (OfText Range)) called is beside = none-found called.1.0 called.1.1
    by old new status answer other (Err (OfText (LineTooWide row column))) called is beside = none-found called.1.0 called.1.1
    by old new status answer other (Err (OfText ReadTooLong)) called is beside = none-found called.1.0 called.1.1
    by old new status answer other (Err (OfText Read)) called is beside = none-found called.1.0 called.1.1
    by old new status answer other (Err (OfText Write)) called is beside = none-found called.1.0 called.1.1
    by old new status answer other (Err (OfText WriteZero)) called is beside = none-found called.1.0 called.1.1
