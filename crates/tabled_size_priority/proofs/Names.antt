-- `==` of the names of priorities is equality.
use Rattle.std.proofs.Common.{rules, ◌≡◌, true}
use Rattle.tabled_size_priority.specs.contracts.choice.ChoicePartialEq.TheImpl.{ghosts as names}
use Rattle.tabled_size_priority.specs.declared.choice.Choice.{Choice}

pub name_same : (a b : Choice) → names.eq a b ≡ true → a ≡ b
name_same a b = search rules

pub name_passes : (a b : Choice) → a ≡ b → names.eq a b ≡ true
name_passes a b = search rules
