use Rattle.std.proofs.Common.{◌∙◌, ap, sym, []}
use Rattle.grid_records_measure.specs.TextLines.{text_width}
use Rattle.basinmug_columns.proofs.Cells.{get_or-none}
use Rattle.basinmug_columns.proofs.needs.width_at.Goals as goal

pub returns-in-None : goal.returns-in-None
returns-in-None g c = c.cell_width-in-None.ensures ∙ ap text_width (sym (get_or-none (g.W.CellRow.texts c.args.row) c.args.column [] c.in-None.ensures))
