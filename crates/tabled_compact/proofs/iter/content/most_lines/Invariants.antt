use Rattle.std.proofs.Common.{◌≡◌, drop, map, max}
use Rattle.grid_records_estimate.specs.Estimates.{greatest}
use Rattle.grid_records_traits.specs.TextLines.{text_height}
use Rattle.tabled_compact.proofs.iter.content.most_lines.Given as goal

abbrev pub invariant-loop-cell : goal.invariant-loop-cell
invariant-loop-cell g l = max l.most (greatest (map text_height (map g.C.Cell.text (drop l.cell-index l.cells)))) ≡ max 1 (greatest (map text_height (map g.C.Cell.text l.cells)))
