use Rattle.std.proofs.Common.{refl}
use Rattle.grid_config_values.specs.Spans.Spans.{extent_at}
use Rattle.grid_records_estimate.proofs.sizing.CompactConfigSizing.columns.Goals as goal

pub returns-clause-value : goal.returns-clause-value
unfolding extent_at
returns-clause-value c = refl
