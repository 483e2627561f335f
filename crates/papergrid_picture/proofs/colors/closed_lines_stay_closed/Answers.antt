use Rattle.papergrid_picture.proofs.ColorsLemmas.ClosedLines.{closed-behind}
use Rattle.papergrid_picture.proofs.colors.closed_lines_stay_closed.Goals as goal

pub returns : goal.returns
returns c = closed-behind
