-- What is printed of a text in memory.
use Rattle.std.specs.Prelude.{◌≡◌, ℕ, Bool, List, [], Option, None, Some, Result, drop, take}
use Rattle.basinmug_bounded.specs.Outputs.{IsPrinted}
use Rattle.basinmug_bounded.specs.declared.printing.Size.{Size}
use Rattle.basinmug_bounded.specs.declared.refusal.Refusal.{Refusal}
use Rattle.basinmug_delimiter.specs.declared.Found.{Found}
use Rattle.basinmug_head.specs.Heads.{IsHeadOf, asked_or_found, records_of, records_read}
use Rattle.basinmug_input.specs.Faults.{IsReadable}
use Rattle.basinmug_input.specs.Reading.{settings}
use Rattle.basinmug_input.specs.Rows.{rows_in, text_of_bytes}
use Rattle.basinmug_run.specs.Runs.{IsRunFault, PrintsRows}
use Rattle.basinmug_run.specs.declared.fault.RunFault.{RunFault}
use Rattle.basinmug_run.specs.declared.options.Options.{Options}

-- bytes of records, and what is between their fields
pub record Delimited : Type 0 where
  pub delimiter : ℕ
  pub bytes : List ℕ

abbrev pub delimited : ℕ → List ℕ → Delimited
delimited delimiter bytes = record { delimiter = delimiter; bytes = bytes }

-- the records of a text begin there, and have this between their fields
abbrev pub read_as : Found → List ℕ → Delimited
read_as found text = delimited found.delimiter (drop found.start text)

-- what is between the fields of a text, and where its records begin: the delimiter that is given, or the one that the text
-- says, after the line that says it
abbrev pub found_by : Option ℕ → List ℕ → Found
found_by given text = asked_or_found given text None

-- these bytes of a text are read: a head of it with so many records, as the program reads one, or all
abbrev pub AreReadOf : Option ℕ → Option ℕ → List ℕ → List ℕ → Type 0
AreReadOf given None text bytes = bytes ≡ text
AreReadOf given (Some records) text bytes = IsHeadOf given None records bytes (found_by given text) text

module _ (options : Options) (read : Delimited) where
  -- a run of them leaves this in a writer, whose table is wider than requested or not
  abbrev pub EndsText : Bool → Option (List ℕ) → Option (List ℕ) → Type 0
  EndsText wider old new =
      IsReadable options.escapes (settings read.delimiter) (text_of_bytes read.bytes) × PrintsRows options (rows_in options.escapes read.delimiter read.bytes) wider old new

  -- this is all that it writes
  abbrev pub PrintsText : Bool → List ℕ → Type 0
  PrintsText wider output = EndsText wider (Some []) (Some output)

  -- why it fails
  abbrev pub IsTextFault : RunFault → Type 0
  IsTextFault fault = IsRunFault read.delimiter read.bytes options fault

-- a text is printed in memory, or its first so many records below the header
pub record IsTextPrinted (options : Options) (given head : Option ℕ) (text : List ℕ) (max_size : ℕ) (old new : List ℕ) (outcome : Result Size Refusal) : Type 0 where
  pub bytes : List ℕ
  pub are_read : AreReadOf given (records_read options.header head) text bytes
  pub printed : IsPrinted (PrintsText options (read_as (found_by given text) bytes)) (IsTextFault options (read_as (found_by given text) bytes)) max_size old new outcome

-- ---- of what is read

-- these bytes have the first so many records of a text, or are all of it
abbrev pub HaveRecords : Found → Option ℕ → List ℕ → List ℕ → Type 0
HaveRecords found None text bytes = bytes ≡ text
HaveRecords found (Some count) text bytes = records_of found bytes ≡ take count (records_of found text)
