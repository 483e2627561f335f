use Rattle.std.proofs.Common.{◌∙◌, ap}
use Rattle.std.specs.Cow.{cow_str_bytes}
use Rattle.grid_records_traits.specs.Rows.{text_at}
use Rattle.papergrid_cells.specs.Lines.{line_measures, line_texts}
use Rattle.papergrid_cells.proofs.KeptLines.{one_line, one_measure}
use Rattle.papergrid_cells.proofs.cell_lines.reading.read_cell.Goals as goal

pub returns-clause-lines : goal.returns-clause-lines
returns-clause-lines g c =
    c.new.ensures.texts ∙ (ap line_texts c.in_ok-vec.ensures.items
    ∙ one_line c.args.trim_horizontal c.args.trim_vertical (text_at (g.R.RecordTexts.rows c.args.records.now) c.args.pos) c.count_lines.result
    c.if-trim_horizontal.false c.if-trim_vertical.false c.if-count_lines-ne1.false c.count_lines.ensures
    (cow_str_bytes c.in_ok-get_line.field-0) c.in_ok-get_line.ensures.line)

pub returns-clause-measures : goal.returns-clause-measures
returns-clause-measures g c =
    c.new.ensures.measures ∙ (ap line_measures c.in_ok-vec.ensures.items
    ∙ one_measure c.args.trim_horizontal c.args.trim_vertical (text_at (g.R.RecordTexts.rows c.args.records.now) c.args.pos) c.count_lines.result
    c.if-trim_horizontal.false c.if-trim_vertical.false c.if-count_lines-ne1.false c.count_lines.ensures
    c.get_width.result c.get_width.ensures)
