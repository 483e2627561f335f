use Rattle.tabled_options.proofs.MultilineLemmas.Equality.{compared_pass, compared_same, settings_pass, settings_same}
use Rattle.tabled_options.specs.contracts.multiline.config.CompactMultilineConfigOrd.TheImpl.Laws as laws
use Rattle.tabled_options.proofs.multiline.laws.equal_settings_are_the_same.Goals as goal

pub returns-clause-equality : goal.returns-clause-equality
returns-clause-equality c = λ a b. (settings_same a b, settings_pass a b)

pub returns-clause-order : goal.returns-clause-order
returns-clause-order c = λ a b. (compared_same a b, compared_pass a b)

pub returns-clause-partial : goal.returns-clause-partial
returns-clause-partial c = λ a b. laws.matches_partial_cmp-law a b

pub returns-clause-total : goal.returns-clause-total
returns-clause-total c = laws.total-law
