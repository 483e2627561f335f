use Rattle.std.proofs.Common.{◌≡◌, take}
use Rattle.grid_records.proofs.rows.records.vec_records.cells_again.Given as goal

abbrev pub invariant-loop-cell : goal.invariant-loop-cell
invariant-loop-cell l = l.copy.items ≡ take l.cell-index l.cells
