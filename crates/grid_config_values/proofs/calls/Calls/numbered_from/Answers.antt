use Rattle.grid_config_values.specs.Numbers.{calls_of}
use Rattle.grid_config_values.proofs.Together.{no_calls}
use Rattle.grid_config_values.proofs.calls.Calls.numbered_from.Goals as goal

pub returns : goal.returns
unfolding calls_of
returns g c = no_calls _ _ _ c.new.ensures.items c.new-2.ensures.items c.new-3.ensures.items
