use Rattle.papergrid_fits.proofs.Estimated.{none-too_wide}
use Rattle.papergrid_fits.proofs.laws.estimated_sizes_leave_room.Goals as goal

pub returns : goal.returns
returns c = none-too_wide
