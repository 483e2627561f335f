-- The widest so far, and of those that are left.
use Rattle.std.proofs.Common.{◌≡◌, drop, max}
use Rattle.basinmug_columns.specs.Needs.{widest_number}
use Rattle.basinmug_columns.proofs.needs.widest_number.Given as goal

abbrev pub invariant-loop-place : goal.invariant-loop-place
invariant-loop-place g l = max (widest_number l.column (drop l.place (g.R.CellRows.rows l.records))) l.most ≡ widest_number l.column (g.R.CellRows.rows l.records)
