use Rattle.grid_config_values.proofs.SpansLemmas.Parting.{visible_apart, holder_is_visible}
use Rattle.grid_config_values.proofs.spans.laws.good_spans_part_the_table.Goals as goal

pub returns-clause-apart : goal.returns-clause-apart
returns-clause-apart c = visible_apart

pub returns-clause-seen : goal.returns-clause-seen
returns-clause-seen c = holder_is_visible
