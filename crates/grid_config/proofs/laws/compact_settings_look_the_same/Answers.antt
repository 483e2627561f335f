use Rattle.grid_config.proofs.Looks.{same_look}
use Rattle.grid_config.proofs.laws.compact_settings_look_the_same.Goals as goal

pub returns : goal.returns
returns c = same_look
