use Rattle.std.proofs.Common.{refl}
use Rattle.papergrid_picture.proofs.ColorsLemmas.Pictures.{table-colored}
use Rattle.papergrid_picture.proofs.colors.colored_reading.Goals as goal

pub returns : goal.returns
returns c = record {
  shown = λ look rows colors widths heights bare texts keeps closing. table-colored look rows colors widths heights bare texts keeps closing;
  without_colors = λ look cells texts widths heights. refl;
}
