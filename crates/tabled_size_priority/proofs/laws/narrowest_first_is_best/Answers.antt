use Rattle.tabled_size_priority.specs.Laws.Raising.{narrowest_optimal}
use Rattle.tabled_size_priority.proofs.laws.narrowest_first_is_best.Goals as goal

pub returns : goal.returns
returns c = narrowest_optimal
