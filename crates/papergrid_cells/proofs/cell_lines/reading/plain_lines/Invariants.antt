use Rattle.std.proofs.Common.{◌≡◌, drop, map, take}
use Rattle.grid_records_measure.specs.RawLines.{lines_behind}
use Rattle.papergrid_cells.specs.Lines.{line_measures, line_texts}
use Rattle.papergrid_cells.specs.Shown.{line_shown}
use Rattle.papergrid_cells.proofs.PlainLines.{IsPlainRest}
use Rattle.papergrid_cells.proofs.cell_lines.reading.plain_lines.Given as goal

abbrev pub invariant-loop-line : goal.invariant-loop-line
invariant-loop-line l = record {
  left : lines_behind l.rest ≡ drop l.line-index (lines_behind l.lines);
  plain : IsPlainRest l.rest;
  texts : line_texts l.cell.items ≡ map (line_shown l.trim_horizontal) (take l.line-index (lines_behind l.lines));
  measures : line_measures l.cell.items ≡ map (λ line. line.width) (take l.line-index l.shown);
}
