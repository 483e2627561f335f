-- The columns of the input so far.
use Rattle.std.proofs.Common.{◌≡◌, ◌≤◌, take}
use Rattle.std.specs.List.{count_by}
use Rattle.basinmug_run.specs.Columns.{is_of_input}
use Rattle.basinmug_run.proofs.table_columns.count_of_input.Given as goal

abbrev pub invariant-loop-column : goal.invariant-loop-column
invariant-loop-column l = (l.count ≡ count_by is_of_input (take l.column-index l.columns)) × (l.count ≤ l.column-index)
