use Rattle.papergrid_picture.proofs.Frames.{kind-above, kind-below, kind-boundary, kind-row}
use Rattle.papergrid_picture.proofs.LineKinds.{kind-shown}
use Rattle.papergrid_picture.proofs.laws.lines_in_order.Goals as goal

pub returns : goal.returns
returns c = record { each = kind-shown; boundaries = kind-boundary; rows = kind-row; above = kind-above; below = kind-below }
