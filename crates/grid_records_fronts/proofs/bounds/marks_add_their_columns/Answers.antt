use Rattle.grid_records_fronts.proofs.BoundsLemmas.Spaces.{measure-marks}
use Rattle.grid_records_fronts.proofs.bounds.marks_add_their_columns.Goals as goal

pub returns : goal.returns
returns c = measure-marks
