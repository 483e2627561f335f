-- Of the columns that were passed, each text has its first.
use Rattle.std.proofs.Common.{◌≡◌, ℕ, List, drop}
use Rattle.std.specs.BTreeMap.{get_by_text}
use Rattle.std.specs.List.{position_from}
use Rattle.basinmug_columns.specs.Names.{shows}
use Rattle.basinmug_columns.proofs.names.first_columns.Given as goal

abbrev pub invariant-loop-column : goal.invariant-loop-column
invariant-loop-column g l = (name : List ℕ) → get_by_text l.columns name ≡ position_from (shows name) l.column (drop l.column (g.H.CellRow.texts l.header))
