use Rattle.std.proofs.Common.{◌≡◌, max, drop}
use Rattle.papergrid_picture.specs.Blocks.{greatest}
use Rattle.papergrid_cells.specs.Lines.{line_measures}
use Rattle.papergrid_cells.proofs.cell_lines.greatest_width.Given as goal

abbrev pub invariant-loop-line : goal.invariant-loop-line
invariant-loop-line l = max l.widest (greatest (line_measures (drop l.line-index l.lines))) ≡ greatest (line_measures l.lines)
