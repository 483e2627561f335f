use Rattle.grid_config.proofs.Equality.{compared_pass, compared_same, settings_pass, settings_same}
use Rattle.grid_config.proofs.laws.equal_settings_are_the_same.Goals as goal

pub returns-clause-equality : goal.returns-clause-equality
returns-clause-equality c = λ a b. (settings_same a b, settings_pass a b)

pub returns-clause-order : goal.returns-clause-order
returns-clause-order c = λ a b. (compared_same a b, compared_pass a b)
