use Rattle.grid_config.proofs.ColorsLemmas.Equality.{equal_texts, same_texts, compared_equal, compared_same}
use Rattle.grid_config.proofs.colors.laws.equal_colors_have_the_same_texts.Goals as goal

pub returns-clause-equality : goal.returns-clause-equality
returns-clause-equality c = λ a b. (equal_texts a b, same_texts a b)

pub returns-clause-order : goal.returns-clause-order
returns-clause-order c = λ a b. (compared_equal a b, compared_same a b)
