use Rattle.std.proofs.Common.{◌∙◌, sym, []}
use Rattle.basinmug_columns.proofs.Cells.{get_or-none}
use Rattle.basinmug_expanded.proofs.names.header_name.Goals as goal

pub returns-in-None : goal.returns-in-None
returns-in-None g c = c.new.ensures.bytes ∙ sym (get_or-none (g.H.CellRow.texts c.args.header) c.args.field [] c.in-None.ensures)
