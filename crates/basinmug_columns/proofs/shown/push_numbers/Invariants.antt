-- The numbers so far.
use Rattle.std.proofs.Common.{◌≡◌, ◌++◌}
use Rattle.basinmug_columns.specs.Shown.{numbered}
use Rattle.basinmug_columns.proofs.shown.push_numbers.Given as goal

abbrev pub invariant-loop-number : goal.invariant-loop-number
invariant-loop-number l = l.columns.items ≡ l.initial.columns.items ++ numbered l.from l.number
