use Rattle.std.proofs.Common.{◌∙◌, sym, ap}
use Rattle.std.specs.Ordering.{is_eq}
use Rattle.tabled_pool.specs.contracts.boxes.value.TableValueOrd.TheImpl.Laws as laws
use Rattle.tabled_pool.proofs.BoxesLemmas.Equality.{value_equal, value_same}
use Rattle.tabled_pool.proofs.BoxesLemmas.SameOrder.{equal_is}
use Rattle.tabled_pool.proofs.boxes.laws.equal_values_are_the_same.Goals as goal

pub returns-clause-equality : goal.returns-clause-equality
returns-clause-equality c = λ a b. (
  λ h. value_same a b (equal_is _ (sym (laws.matches_eq-law a b) ∙ h)),
  λ h. laws.matches_eq-law a b ∙ ap is_eq (value_equal a b h),
)

pub returns-clause-order : goal.returns-clause-order
returns-clause-order c = λ a b. (value_same a b, value_equal a b)
