-- The widest so far, and of those that are left.
use Rattle.std.proofs.Common.{◌≡◌, drop, max}
use Rattle.basinmug_columns.specs.Needs.{widest_in}
use Rattle.basinmug_columns.proofs.needs.widest_in.Given as goal

abbrev pub invariant-loop-place : goal.invariant-loop-place
invariant-loop-place g l = max (widest_in l.column (drop l.place (g.R.CellRows.rows l.records))) l.most ≡ widest_in l.column (g.R.CellRows.rows l.records)
