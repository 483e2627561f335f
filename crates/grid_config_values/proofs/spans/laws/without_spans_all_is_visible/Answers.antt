use Rattle.grid_config_values.proofs.SpansLemmas.Parting.{visible_without, good_without}
use Rattle.grid_config_values.proofs.spans.laws.without_spans_all_is_visible.Goals as goal

pub returns-clause-visible : goal.returns-clause-visible
returns-clause-visible c = visible_without

pub returns-clause-good : goal.returns-clause-good
returns-clause-good c = good_without
