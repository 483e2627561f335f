-- The width of a text, and the text without its sequences.
use Rattle.std.specs.Prelude.{◌≡◌, ℕ, List, length, Result, Ok, Err, IsUtf8}
use Rattle.std.specs.Str.Lossy.{utf8_valid_len}
use Rattle.ansi_scan.specs.Pieces.{pieces}
use Rattle.ansi_str.specs.StyledText.{strip}
use Rattle.columns_bounded.specs.Answers.{answer_of, status_of}
use Rattle.bounded_output.specs.Filled.{filled}
use Rattle.columns_bounded.specs.declared.answer.Answer.{Answer}
use Rattle.columns_bounded.specs.declared.fault.AnswerFault.{AnswerFault}
use Rattle.columns_bounded.specs.declared.fault.AnswerFault.TheVariants.{Text as OfText}
use Rattle.program_options.specs.declared.columns.fault.RunFault.TheVariants.{Memory, NotUtf8}
use Rattle.grid_records_measure.specs.TextLines.{text_width}

-- the bytes are no text, and this is the length of their longest prefix that is
abbrev pub IsNoText : List ℕ → AnswerFault → Type 0
IsNoText bytes (OfText (NotUtf8 at)) = ¬ (IsUtf8 bytes) × (at ≡ utf8_valid_len bytes)
IsNoText bytes fault = ⊥

-- the columns of the widest line of the text, without its sequences
abbrev pub IsTextWidth : List ℕ → Result ℕ AnswerFault → Type 0
IsTextWidth text (Ok columns) = IsUtf8 text × (columns ≡ text_width text)
IsTextWidth text (Err fault) = IsNoText text fault

-- the text without its sequences is written as far as it fits, and its whole size is reported; or nothing is written
abbrev pub IsStripped : List ℕ → List ℕ → List ℕ → Result ℕ AnswerFault → Type 0
IsStripped text old new (Ok size) = IsUtf8 text × (size ≡ length (strip (pieces text))) × (new ≡ filled old (strip (pieces text)))
IsStripped text old new (Err (OfText Memory)) = IsUtf8 text × (new ≡ old)
IsStripped text old new (Err fault) = IsNoText text fault × (new ≡ old)

-- ---- what a caller in another language sees

pub record TellsWidth (text : List ℕ) (status : ℕ) (answer : Answer) : Type 0 where
  pub outcome : Result ℕ AnswerFault
  pub called_for : IsTextWidth text outcome
  pub told : status ≡ status_of outcome
  pub told_beside : answer ≡ answer_of outcome

pub record TellsStripped (text old new : List ℕ) (status : ℕ) (answer : Answer) : Type 0 where
  pub outcome : Result ℕ AnswerFault
  pub called_for : IsStripped text old new outcome
  pub told : status ≡ status_of outcome
  pub told_beside : answer ≡ answer_of outcome
