use Rattle.std.proofs.Common.{◌∙◌, arith, sym}
use Rattle.std.proofs.lemmas.Bool.Decides.{nat_tests}
use Rattle.grid_config_values.specs.Numbers.{calls_of}
use Rattle.grid_config_values.proofs.Together.{none_numbered}
use Rattle.grid_config_values.proofs.calls.Calls.is_empty.Goals as goal

pub returns : goal.returns
unfolding calls_of
returns g c is = sym c.self.view_is ∙ none_numbered c.self.inside.next _ (grind (arith, nat_tests)) c.self.invariant.below
