use Rattle.std.proofs.Common.{refl}
use Rattle.papergrid_picture.proofs.Tiling.{Tiles-picture, text_line-exact}
use Rattle.papergrid_picture.proofs.Wide.{room-where_tiled}
use Rattle.papergrid_picture.proofs.laws.tiling.Goals as goal

pub returns : goal.returns
returns c = record {
  lines = λ grid spans y good room margins. Tiles-picture grid spans good room margins y;
  room = λ grid spans good margins shows tiled. room-where_tiled grid spans good margins shows tiled;
  texts = text_line-exact;
  begins = λ look widths heights. refl;
}
