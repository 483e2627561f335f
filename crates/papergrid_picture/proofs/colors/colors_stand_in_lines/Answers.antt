use Rattle.papergrid_picture.proofs.ColorsLemmas.PaintedLines.{grid_items-same}
use Rattle.papergrid_picture.proofs.colors.colors_stand_in_lines.Goals as goal

pub returns : goal.returns
returns g c = λ reading grid. grid_items-same reading grid
