use Rattle.std.proofs.Common.{◌≡◌, take}
use Rattle.grid_config_values.proofs.numbered.copied.Given as goal

abbrev pub invariant-loop-one : goal.invariant-loop-one
invariant-loop-one g l = l.copy.items ≡ take l.one-index l.kept
