-- What the columns so far need.
use Rattle.std.proofs.Common.{◌≡◌, map}
use Rattle.std.specs.List.{range_with_len}
use Rattle.basinmug_columns.specs.Needs.{need_of}
use Rattle.basinmug_columns.proofs.needs.needs_of.Given as goal

abbrev pub invariant-loop-column : goal.invariant-loop-column
invariant-loop-column g l = l.needs.items ≡ map (need_of (g.H.CellRow.texts l.header) (g.R.CellRows.rows l.records) l.numeric) (range_with_len 0 l.column)
