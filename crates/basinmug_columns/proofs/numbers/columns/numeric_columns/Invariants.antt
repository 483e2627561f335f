use Rattle.std.proofs.Common.{◌≡◌, map}
use Rattle.std.specs.List.{range_with_len}
use Rattle.basinmug_columns.specs.Numbers.Columns.{is_numeric}
use Rattle.basinmug_columns.proofs.numbers.columns.numeric_columns.Given as goal

abbrev pub invariant-loop-column : goal.invariant-loop-column
invariant-loop-column g l = l.numeric.items ≡ map (is_numeric (g.R.CellRows.rows l.records)) (range_with_len 0 l.column)
