use Rattle.std.proofs.Common.{◌∙◌, ◌∷◌, ◌++◌}
use Rattle.grid_config_values.specs.Settings.{value_at}
use Rattle.grid_config_values.proofs.Settings.{are_set, covered_last, covered_by_none}
use Rattle.grid_config_values.proofs.laws.the_last_call_decides.Goals as goal

pub returns-clause-last : goal.returns-clause-last
returns-clause-last g c old new earlier later call p set here none =
    are_set (earlier ++ call ∷ later) old new p set ∙ covered_last (value_at old p) earlier later call p here none

pub returns-clause-none : goal.returns-clause-none
returns-clause-none g c old new calls p set none = are_set calls old new p set ∙ covered_by_none (value_at old p) calls p none
