-- What is printed of records as cells.
use Rattle.std.specs.Prelude.{◌≡◌, ◌≢◌, ◌⊎◌, ⊤, ℕ, Bool, List, [], Option, Some, Result, Err}
use Rattle.basinmug_bounded.specs.Cells.{Given, IsCellFault, IsReadCells}
use Rattle.basinmug_bounded.specs.Outputs.{IsPrinted}
use Rattle.basinmug_bounded.specs.declared.printing.Size.{Size}
use Rattle.basinmug_bounded.specs.declared.refusal.Refusal.{Refusal}
use Rattle.basinmug_head.specs.Heads.{records_read}
use Rattle.basinmug_run.specs.Runs.{IsRowsFault, PrintsRows}
use Rattle.basinmug_run.specs.declared.fault.RunFault.{RunFault}
use Rattle.basinmug_run.specs.declared.fault.RunFault.TheVariants.{Input, Print, Memory}
use Rattle.basinmug_run.specs.declared.options.Options.{Options}
use Rattle.basinmug_run.specs.declared.picture.fault.PrintFault.TheVariants.{Memory as NoMemoryToPrint}

module _ (options : Options) (rows : List (List (List ℕ))) where
  -- this is all that a run of these rows writes, and whether its table is wider than requested
  abbrev pub PrintsRead : Bool → List ℕ → Type 0
  PrintsRead wider output = PrintsRows options rows wider (Some []) (Some output)

  -- why it fails; a lack of memory may always be, by its own name
  abbrev pub IsReadFault : RunFault → Type 0
  IsReadFault (Input fault) = ⊥
  IsReadFault (Print fault) = IsRowsFault options rows fault × (fault ≢ NoMemoryToPrint)
  IsReadFault Memory = ⊤

  -- they are printed in memory
  abbrev pub IsRowsPrinted : ℕ → List ℕ → List ℕ → Result Size Refusal → Type 0
  IsRowsPrinted max_size old new outcome = IsPrinted PrintsRead IsReadFault max_size old new outcome

-- of these cells those of the first so many records below the header are read, or all
module _ (options : Options) (head : Option ℕ) (given : Given) where
  -- the cells are refused, and nothing is written
  pub record AreRefused (old new : List ℕ) (outcome : Result Size Refusal) : Type 0 where
    pub refusal : Refusal
    pub is : outcome ≡ Err refusal
    pub refused : IsCellFault options.escapes (records_read options.header head) given refusal
    pub unchanged : new ≡ old

  -- or they are records, which are printed or refused
  pub record ArePrinted (max_size : ℕ) (old new : List ℕ) (outcome : Result Size Refusal) : Type 0 where
    pub rows : List (List (List ℕ))
    pub read : IsReadCells options.escapes (records_read options.header head) given rows
    pub printed : IsRowsPrinted options rows max_size old new outcome

  abbrev pub IsCellsPrinted : ℕ → List ℕ → List ℕ → Result Size Refusal → Type 0
  IsCellsPrinted max_size old new outcome = AreRefused old new outcome ⊎ ArePrinted max_size old new outcome
