use Rattle.papergrid_picture.proofs.Widths.{line-columns}
use Rattle.papergrid_picture.proofs.laws.lines_are_equally_wide.Goals as goal

pub returns : goal.returns
returns c = λ look rows widths heights spans y bare ones texts good room. line-columns look rows widths heights bare ones texts spans y good room
