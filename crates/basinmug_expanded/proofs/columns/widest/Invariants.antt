-- The widest so far, and of those that are left.
use Rattle.std.proofs.Common.{◌≡◌, drop, max}
use Rattle.basinmug_expanded.specs.Columns.{widest}
use Rattle.basinmug_expanded.proofs.columns.widest.Given as goal

abbrev pub invariant-loop-place : goal.invariant-loop-place
invariant-loop-place g l = max (widest (drop l.place (g.T.CellRow.texts l.texts))) l.most ≡ widest (g.T.CellRow.texts l.texts)
