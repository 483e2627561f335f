-- Each place is looked at.
use Rattle.std.proofs.Common.{refl}
use Rattle.grid_config_values.specs.Spans.Spans.{extent_at}
use Rattle.tables_laws.proofs.by_hand.places_by_hand.Goals as goal

pub returns-clause-first : goal.returns-clause-first
unfolding extent_at
returns-clause-first c = refl

pub returns-clause-by_row : goal.returns-clause-by_row
unfolding extent_at
returns-clause-by_row c = refl
