use Rattle.std.proofs.Common.{◌≡◌, map, take}
use Rattle.tabled_pool.specs.Boxes.Values.{Text, nesting_of}
use Rattle.tabled_pool.proofs.table.cell_values.Given as goal

abbrev pub invariant-loop-cell : goal.invariant-loop-cell
invariant-loop-cell g l = map nesting_of l.values.items ≡ map Text (map g.C.Cell.text (take l.cell-index l.cells))
