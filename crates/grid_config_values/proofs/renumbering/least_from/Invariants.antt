use Rattle.std.proofs.Common.{take}
use Rattle.grid_config_values.specs.Numbers.{IsLeastFrom, numbers_of}
use Rattle.grid_config_values.proofs.renumbering.least_from.Given as goal

-- the least of those that were looked at
abbrev pub invariant-loop-one : goal.invariant-loop-one
invariant-loop-one g l = IsLeastFrom l.from l.most (numbers_of (take l.one-index l.kept)) l.least
