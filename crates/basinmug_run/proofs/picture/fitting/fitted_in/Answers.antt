-- Where there is no cell, the text is empty, and fits.
use Rattle.std.proofs.Common.{◌∙◌, ap, sym, []}
use Rattle.basinmug_cells.specs.Views.{row_texts}
use Rattle.basinmug_columns.proofs.Cells.{get_or-none}
use Rattle.basinmug_run.specs.Picture.Fitting.{fitted_in}
use Rattle.basinmug_run.proofs.PictureLemmas.FittedCells.{nothing-wide}
use Rattle.basinmug_run.proofs.picture.fitting.fitted_in.Goals as goal

pub returns-in-None : goal.returns-in-None
returns-in-None c =
    sym (ap (fitted_in c.args.truncate c.args.room) (get_or-none (row_texts c.args.row) c.args.column [] c.in-None.ensures) ∙ nothing-wide c.args.truncate [] [] c.args.room)
