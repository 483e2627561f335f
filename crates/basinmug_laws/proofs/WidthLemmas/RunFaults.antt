-- A table that is printed of records is refused only because its totals are out of range.
use Rattle.std.proofs.Common.{inl, inr, ◌⊎◌, ◌≡◌, ◌≢◌, ℕ, Bool, true, false, List, ap, subst, sym}
use Rattle.std.specs.Prelude.{MatchBool}
use Rattle.grid_config_values.specs.declared.fault.Fault.{Fault}
use Rattle.grid_config_values.specs.declared.fault.Fault.TheVariants.{Memory, Range}
use Rattle.tabled_output.specs.declared.building.BuildFault.{BuildFault}
use Rattle.tabled_output.specs.declared.building.BuildFault.TheVariants.{Table as OfTable, Write, WriteZero}
use Rattle.basinmug_columns.specs.declared.rows.RowsShown.{RowsShown}
use Rattle.basinmug_run.specs.declared.options.Options.{Options}
use Rattle.basinmug_run.specs.declared.picture.fault.PrintFault.TheVariants.{Table}
use Rattle.basinmug_run.specs.Columns.{shows_whole_rows}
use Rattle.basinmug_run.specs.Kept.{Kept}
use Rattle.basinmug_run.specs.Picture.Pictures.{HasNoTable, IsTable}
use Rattle.basinmug_run.specs.Picture.Printed.{IsShownFault, IsTableFault}
use Rattle.basinmug_run.specs.Runs.{IsAsTableFault, IsColumnsFault, IsKeptFault, IsRecordsFault, table_rows}
use Rattle.basinmug_laws.proofs.WidthLemmas.TablesThatFit.{not-made, table-range}

-- the error of a table
abbrev fault_in : BuildFault → Fault
fault_in (OfTable fault) = fault
fault_in Write = Memory
fault_in WriteZero = Memory

module _ (options : Options) (shown : RowsShown) (rows : List (List (List ℕ))) (fault : Fault) where
  -- an error that is not one of memory
  either : (fault ≡ Range) ⊎ (fault ≡ Memory) → OfTable fault ≢ OfTable Memory → fault ≡ Range
  either (inl range) other = range
  either (inr memory) other = absurd (other (ap OfTable memory))

  table-fault : IsTableFault (IsTable options shown rows) (HasNoTable options shown rows) (Table (OfTable fault)) → fault ≡ Range
  table-fault (inl (why, is, refused), other) =
      let same : fault ≡ why = ap fault_in is in either (subst (λ (it : Fault). (it ≡ Range) ⊎ (it ≡ Memory)) (sym same) (not-made options shown rows why refused)) other
  table-fault (inr (s, made, inl memory), other) = either (inr memory) other
  table-fault (inr (s, made, inr answer), other) = table-range options shown rows s made fault answer

  shown-fault : IsShownFault options shown rows (Table (OfTable fault)) → fault ≡ Range
  shown-fault refused = table-fault refused.1

module _ (options : Options) (kept : Kept) (fault : Fault) where
  as-table : (whole : Bool) → MatchBool whole (IsShownFault options kept.shown kept.rows (Table (OfTable fault))) (IsColumnsFault options kept (Table (OfTable fault))) → fault ≡ Range
  as-table true refused = shown-fault options kept.shown kept.rows fault refused
  as-table false (named, (own, are, refused)) = shown-fault own kept.shown (table_rows options kept) fault refused

  as-asked : (expanded : Bool) → MatchBool expanded (IsRecordsFault options kept (Table (OfTable fault))) (IsAsTableFault options kept (Table (OfTable fault))) → fault ≡ Range
  as-asked true refused = absurd refused.1
  as-asked false refused = as-table (shows_whole_rows options kept.rows) refused

  pub kept-fault : IsKeptFault options kept (Table (OfTable fault)) → fault ≡ Range
  kept-fault refused = as-asked options.expanded refused
