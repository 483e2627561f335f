-- Where a row has no cell is the empty text.
use Rattle.std.proofs.Common.{◌∙◌, sym}
use Rattle.basinmug_cells.specs.Views.{row_texts}
use Rattle.basinmug_cells.proofs.Views.{none-at}
use Rattle.basinmug_cells.proofs.row.Row.cell_or_empty.Goals as goal

pub returns-in-None : goal.returns-in-None
returns-in-None c = c.empty.ensures ∙ sym (none-at (row_texts c.args.self) c.args.column (sym c.in-None.ensures))
