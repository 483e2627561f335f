use Rattle.grid_config_values.specs.Numbers.{calls_of}
use Rattle.grid_config_values.proofs.Together.{no_calls}
use Rattle.grid_config_values.proofs.calls.Calls.clear.Goals as goal

pub returns : goal.returns
unfolding calls_of
returns g c = no_calls _ _ _ c.clear.ensures.items c.clear-2.ensures.items c.clear-3.ensures.items
