use Rattle.std.proofs.Common.{◌≡◌, ◌++◌, drop, map, take}
use Rattle.grid_config_values.specs.Numbers.{renumbered}
use Rattle.grid_config_values.proofs.renumbering.renumber.Given as goal

-- those before have their new numbers
abbrev pub invariant-loop-i : goal.invariant-loop-i
invariant-loop-i g l = l.kept.items ≡ map (renumbered l.from l.to) (take l.i l.initial.kept.items) ++ drop l.i l.initial.kept.items
