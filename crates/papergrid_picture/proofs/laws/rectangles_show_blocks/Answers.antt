use Rattle.papergrid_picture.proofs.Tiling.{rectangle-shown}
use Rattle.papergrid_picture.proofs.laws.rectangles_show_blocks.Goals as goal

pub returns : goal.returns
returns c = λ grid spans i j y good room margins row column in_line. rectangle-shown grid spans good room margins i j y row column in_line
