use Rattle.grid_records_estimate.proofs.Alike.{alike-sizes, compact_look-sizes, look-sizes}
use Rattle.grid_records_estimate.proofs.laws.sizes_follow_from_looks.Goals as goal

pub returns-clause-cells : goal.returns-clause-cells
returns-clause-cells c = alike-sizes

pub returns-clause-settings : goal.returns-clause-settings
returns-clause-settings c = look-sizes

pub returns-clause-compact : goal.returns-clause-compact
returns-clause-compact c = compact_look-sizes
