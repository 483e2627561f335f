use Rattle.ansi_scan.proofs.StyleLemmas.Equality.{equal_attributes, equal_to_itself, compared_equal, compared_to_itself}
use Rattle.ansi_scan.proofs.style.laws.equal_styles_set_the_same.Goals as goal

pub returns-clause-equality : goal.returns-clause-equality
returns-clause-equality c = λ a b. (equal_attributes a b, equal_to_itself a b)

pub returns-clause-order : goal.returns-clause-order
returns-clause-order c = λ a b. (compared_equal a b, compared_to_itself a b)
