use Rattle.std.proofs.Common.{◌∙◌, ap, sym, []}
use Rattle.grid_records_measure.specs.TextLines.{text_width}
use Rattle.basinmug_columns.proofs.Cells.{get_or-none}
use Rattle.basinmug_expanded.proofs.values.width_at.Goals as goal

pub returns-in-None : goal.returns-in-None
returns-in-None g c = c.width_of-in-None.ensures ∙ ap text_width (sym (get_or-none (g.T.CellRow.texts c.args.cells) c.args.column [] c.in-None.ensures))
