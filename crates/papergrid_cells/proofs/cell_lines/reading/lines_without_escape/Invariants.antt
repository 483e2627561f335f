-- The lines that were read, and those that are left, are all; none has ESC.
use Rattle.std.proofs.Common.{◌≡◌, ◌++◌, length, map}
use Rattle.std.specs.List.{slice_split}
use Rattle.grid_records_measure.specs.RawLines.{lines_behind}
use Rattle.grid_records_measure.specs.TextLines.{is_line_feed}
use Rattle.papergrid_cells.specs.Lines.{line_measures, line_texts}
use Rattle.papergrid_cells.specs.Shown.{line_shown, measure_shown}
use Rattle.papergrid_cells.proofs.PlainLines.{IsPlainRest}
use Rattle.papergrid_cells.proofs.cell_lines.reading.lines_without_escape.Given as goal

abbrev pub invariant-loop-rest : goal.invariant-loop-rest
invariant-loop-rest l = record {
  texts : line_texts l.lines.items ++ map (line_shown l.trim_horizontal) (lines_behind l.rest) ≡ map (line_shown l.trim_horizontal) (slice_split is_line_feed l.text);
  measures : line_measures l.lines.items ++ map (measure_shown l.trim_horizontal) (lines_behind l.rest) ≡ map (measure_shown l.trim_horizontal) (slice_split is_line_feed l.text);
  plain : IsPlainRest l.rest;
}

abbrev pub decreases-loop-rest : goal.decreases-loop-rest
decreases-loop-rest l = length (lines_behind l.rest)
