-- What a run of a text leaves in a writer is what it writes alone.
use Rattle.std.proofs.Common.{ℕ, Bool, List, Option, Some, Result, Ok, Err, IfOk}
use Rattle.std.specs.Prelude.{OnOk}
use Rattle.basinmug_bounded.proofs.Alone.{Alone, Begun, rows-alone, rows-begun}
use Rattle.basinmug_bounded.specs.Texts.{Delimited, EndsText}
use Rattle.basinmug_input.specs.Faults.{IsReadable}
use Rattle.basinmug_input.specs.Reading.{settings}
use Rattle.basinmug_input.specs.Rows.{rows_in, text_of_bytes}
use Rattle.basinmug_run.specs.Runs.{PrintsRows, PrintsTextFront}
use Rattle.basinmug_run.specs.declared.fault.RunFault.{RunFault}
use Rattle.basinmug_run.specs.declared.options.Options.{Options}
use Rattle.basinmug_run.specs.declared.picture.printing.Printed.{Printed}

module _ (options : Options) (read : Delimited) where
  abbrev Readable : Type 0
  Readable = IsReadable options.escapes (settings read.delimiter) (text_of_bytes read.bytes)

  abbrev rows : List (List (List ℕ))
  rows = rows_in options.escapes read.delimiter read.bytes

  -- a prefix of it
  abbrev pub BeginsText : Option (List ℕ) → Option (List ℕ) → Type 0
  BeginsText old new = PrintsTextFront read.delimiter read.bytes options old new

  pub text-alone : (wider : Bool) (a : List ℕ) (b : Option (List ℕ)) → EndsText options read wider (Some a) b → Alone (EndsText options read wider) a b
  text-alone wider a b ends = let found = rows-alone a b wider options rows ends.1 in (found.0, found.1, (ends.0, found.2))

  pub text-begun : (a : List ℕ) (b : Option (List ℕ)) → BeginsText (Some a) b → Begun (EndsText options read) a b
  text-begun a b begins = let found = rows-begun a b options rows begins.1 in (found.0, found.1, found.2, found.3, (begins.0, found.4))

  -- a text that is readable, and printed
  pub ends-text : (result : Result Printed RunFault) (old new : Option (List ℕ)) → OnOk result Readable → IfOk result (λ printed. PrintsRows options rows printed.wider old new)
      → IfOk result (λ printed. EndsText options read printed.wider old new)
  ends-text (Ok printed) old new readable prints = (readable, prints)
  ends-text (Err fault) old new readable prints = tt
