use Rattle.columns_run.proofs.Rooms.{never-wide}
use Rattle.columns_run.proofs.laws.no_cell_is_too_wide.Goals as goal

pub returns : goal.returns
returns c = never-wide
