use Rattle.tabled_size.proofs.DimensionLemmas.Same.{compared_same, same_compared}
use Rattle.tabled_size.proofs.dimension.laws.equal_sizes_are_the_same.Goals as goal

pub returns-clause-order : goal.returns-clause-order
returns-clause-order c = λ a b. (compared_same a b, same_compared a b)
