-- The widest so far, and of those that are left.
use Rattle.std.proofs.Common.{◌≡◌, drop, max}
use Rattle.basinmug_expanded.specs.Columns.{widest_value}
use Rattle.basinmug_expanded.proofs.columns.widest_value.Given as goal

abbrev pub invariant-loop-place : goal.invariant-loop-place
invariant-loop-place g l = max (widest_value (drop l.place (g.R.CellRows.rows l.records))) l.most ≡ widest_value (g.R.CellRows.rows l.records)
