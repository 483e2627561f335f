use Rattle.grid_records_estimate.proofs.Compact.{start-sizes}
use Rattle.grid_records_estimate.proofs.laws.compact_settings_give_the_same_sizes.Goals as goal

pub returns : goal.returns
returns c = start-sizes
