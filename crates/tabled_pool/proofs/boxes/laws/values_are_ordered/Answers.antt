use Rattle.std.proofs.Common.{◌∙◌, ap, Some}
use Rattle.tabled_pool.specs.contracts.boxes.value.TableValueOrd.TheImpl.Laws as laws
use Rattle.tabled_pool.proofs.BoxesLemmas.Equality.{compared_is}
use Rattle.tabled_pool.proofs.boxes.laws.values_are_ordered.Goals as goal

pub returns-clause-order : goal.returns-clause-order
returns-clause-order c = compared_is

pub returns-clause-partial : goal.returns-clause-partial
returns-clause-partial c = λ a b. laws.matches_partial_cmp-law a b ∙ ap Some (compared_is a b)

pub returns-clause-total : goal.returns-clause-total
returns-clause-total c = laws.total-law
