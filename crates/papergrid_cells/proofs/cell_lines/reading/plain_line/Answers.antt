-- Without ESC a line is trimmed as it is shown.
use Rattle.std.proofs.Common.{◌∙◌, ap, sym}
use Rattle.grid_records_measure.specs.TextLines.{line_measure}
use Rattle.papergrid_cells.specs.Shown.{line_shown, measure_shown}
use Rattle.papergrid_cells.proofs.KeptLines.{trimmed-plain}
use Rattle.papergrid_cells.proofs.cell_lines.reading.plain_line.Goals as goal

pub returns-then-trim_horizontal : goal.returns-then-trim_horizontal
returns-then-trim_horizontal c =
    let line = c.args.line.now in
    record {
      text = c.measured_line.ensures.text ∙ (c.trim.ensures.trim ∙ (trimmed-plain line c.utf8.line c.requires ∙ ap (λ b. line_shown b line) (sym c.if-trim_horizontal.true)));
      width = c.measured_line.ensures.width ∙ (ap line_measure c.trim.ensures.trim ∙ ap (λ b. measure_shown b line) (sym c.if-trim_horizontal.true));
    }

pub returns : goal.returns
returns c =
    let line = c.args.line.now in
    record {
      text = c.measured_line-2.ensures.text ∙ ap (λ b. line_shown b line) (sym c.if-trim_horizontal.false);
      width = c.measured_line-2.ensures.width ∙ ap (λ b. measure_shown b line) (sym c.if-trim_horizontal.false);
    }
