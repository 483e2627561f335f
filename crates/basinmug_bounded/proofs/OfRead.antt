-- What a run of rows leaves in a writer is what it writes alone.
use Rattle.std.proofs.Common.{◌≡◌, ℕ, Bool, List, Option, Some}
use Rattle.basinmug_bounded.proofs.Alone.{Alone, Begun, rows-alone, rows-begun}
use Rattle.basinmug_bounded.specs.CellOutputs.{IsReadFault}
use Rattle.basinmug_run.specs.Faults.{of_print}
use Rattle.basinmug_run.specs.Picture.Printed.{IsWithoutText}
use Rattle.basinmug_run.specs.Runs.{IsRowsFault, IsRunWithoutText, PrintsRows, PrintsRowsFront}
use Rattle.basinmug_run.specs.declared.options.Options.{Options}
use Rattle.basinmug_run.specs.declared.picture.fault.PrintFault.{PrintFault}
use Rattle.basinmug_run.specs.declared.picture.fault.PrintFault.TheVariants.{NoColumn, Table, Memory as NoMemoryToPrint}

module _ (options : Options) (rows : List (List (List ℕ))) where
  pub read-alone : (wider : Bool) (a : List ℕ) (b : Option (List ℕ)) → PrintsRows options rows wider (Some a) b → Alone (PrintsRows options rows wider) a b
  read-alone wider a b ends = rows-alone a b wider options rows ends

  pub read-begun : (a : List ℕ) (b : Option (List ℕ)) → PrintsRowsFront options rows (Some a) b → Begun (PrintsRows options rows) a b
  read-begun a b begins = rows-begun a b options rows begins

  -- an error of printing is one of a run
  pub read-fault : (fault : PrintFault) → IsRowsFault options rows fault → IsReadFault options rows (of_print fault)
  read-fault (NoColumn name) is = (is, λ same. let it : NoColumn name ≡ NoMemoryToPrint = same in cc it)
  read-fault (Table fault) is = (is, λ same. let it : Table fault ≡ NoMemoryToPrint = same in cc it)
  read-fault NoMemoryToPrint is = tt

-- before which errors nothing is written
pub nothing-printed : (fault : PrintFault) → IsRunWithoutText (of_print fault) → IsWithoutText fault
nothing-printed (NoColumn name) none = none
nothing-printed (Table fault) none = none
nothing-printed NoMemoryToPrint none = none
