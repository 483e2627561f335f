-- The row, and after it as many empty texts as the loop has counted.
use Rattle.std.proofs.Common.{◌≡◌, [], ◌++◌, map, replicate}
use Rattle.tabled.proofs.makers.of_cells.filled_row.Given as goal

abbrev pub invariant-loop : goal.invariant-loop
invariant-loop g l = map g.T.Cell.text l.cells.items ≡ map g.T.Cell.text l.fn.row.items ++ replicate l.counter []
