use Rattle.grid_config_values.proofs.SpansLemmas.Extents.{none_is_bounded}
use Rattle.grid_config_values.proofs.spans.spans.Spans.new.Goals as goal

pub invariant_of-result : goal.invariant_of-result
invariant_of-result c = none_is_bounded c.new.result c.new.ensures.empty
