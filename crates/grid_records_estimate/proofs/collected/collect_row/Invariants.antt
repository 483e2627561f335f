use Rattle.std.proofs.Common.{◌≡◌, ℕ, Bool, List, length, drop}
use Rattle.grid_records_traits.proofs.Loops.{AreCells}
use Rattle.grid_records_traits.specs.Giving.{GivesTexts}
use Rattle.grid_records_estimate.specs.CollectedNeeds.{HasRead, Placed}
use Rattle.grid_records_estimate.proofs.OneCellRead.{RowRead}
use Rattle.grid_records_estimate.proofs.collected.collect_row.Given as goal

abbrev pub invariant-loop-cell : goal.invariant-loop-cell
invariant-loop-cell g l =
    AreCells l.yielded × (l.column ≡ length l.yielded)
    × ((texts : List (List ℕ)) (can_fail : Bool) (before : List Placed) →
    GivesTexts g.I.Iterator.can_next g.I.Iterator.remaining g.I.Iterator.next_gives g.C.Cell.text can_fail l.fn.cells texts →
    HasRead (g.S.Sizing.sizing l.cfg) l.initial.widths l.initial.heights before →
    RowRead (g.S.Sizing.sizing l.cfg) l.widths l.heights before l.row l.column (drop (length l.yielded) texts) texts)
