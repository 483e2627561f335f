use Rattle.std.proofs.Common.{◌≡◌, drop}
use Rattle.ansi_scan.specs.Pieces.{pieces}
use Rattle.grid_records_measure.specs.RawLines.{lines_behind}
use Rattle.grid_records_measure.specs.TextLines.{shown_lines}
use Rattle.papergrid_cells.proofs.PlainLines.{IsPlainRest}
use Rattle.papergrid_cells.proofs.cell_lines.reading.behind_lines.Given as goal

abbrev pub invariant-loop : goal.invariant-loop
invariant-loop l = record {
  left : lines_behind l.lines ≡ drop l.counter (shown_lines (pieces l.text));
  plain : IsPlainRest l.lines;
}
