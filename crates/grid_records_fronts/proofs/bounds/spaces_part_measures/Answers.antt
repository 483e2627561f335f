use Rattle.grid_records_fronts.proofs.BoundsLemmas.Spaces.{measure-space}
use Rattle.grid_records_fronts.proofs.bounds.spaces_part_measures.Goals as goal

pub returns : goal.returns
returns c = measure-space
