use Rattle.std.proofs.Common.{◌≡◌, drop, map, take}
use Rattle.papergrid_cells.specs.Lines.{line_measures, line_texts}
use Rattle.papergrid_cells.specs.Shown.{line_shown}
use Rattle.papergrid_cells.proofs.cell_lines.reading.take_lines.Given as goal

abbrev pub invariant-loop-line : goal.invariant-loop-line
invariant-loop-line l = record {
  left : l.lines.parts ≡ drop l.line-index l.fn.lines.parts;
  texts : line_texts l.cell.items ≡ map (line_shown l.trim_horizontal) (take l.line-index l.fn.lines.parts);
  measures : line_measures l.cell.items ≡ map (λ line. line.width) (take l.line-index l.shown);
}
