-- What is written of a text with a result, and how often the writer failed.
use Rattle.std.specs.Prelude.{◌≡◌, ℕ, List, Option, Result, IfErr, IsErrOf}
use Rattle.tabled_output.specs.Counts.{inner_of, WritesUntil}
use Rattle.tabled_output.specs.declared.counted.Counted.{Counted}
use Rattle.program_options.specs.declared.columns.fault.RunFault.{RunFault}
use Rattle.program_options.specs.declared.columns.fault.RunFault.TheVariants.{Write, WriteZero}
use Rattle.columns_run.specs.Fault.{MayFollowReading, MayFollowWrites}
use Rattle.columns_run.specs.DrawnTables.{output_of}
use Rattle.columns_run.specs.Run.{LeavesAlone, MayAnswer, Writes}
use Rattle.columns_run.specs.Wanted.{Wanted}

-- as much of the text was written as the result says; the writer failed where the result says so, and nothing was
-- written before an error of the input
pub record IsWritten {T A : Type 0} (contents : T → Option (List ℕ)) (text : List ℕ) (result : Result A RunFault) (before after : Counted T) : Type 0 where
  pub writes : Writes text result (contents (inner_of before)) (contents (inner_of after))
  pub writer : WritesUntil (IsErrOf result Write) (IsErrOf result WriteZero) before after
  pub untouched : IfErr result (λ fault. ¬ (MayFollowWrites fault) → after ≡ before)

-- the table of an input is written, or it has none: one of the results that the input may have, none of the reader
pub record WritesTable {T A : Type 0} (contents : T → Option (List ℕ)) (wanted : Wanted) (input : List ℕ) (result : Result A RunFault) (before after : Counted T) : Type 0 where
  pub answers : MayAnswer wanted input result
  pub written : IsWritten contents (output_of wanted input) result before after
  pub alone : LeavesAlone wanted input before after
  pub faults : IfErr result MayFollowReading
