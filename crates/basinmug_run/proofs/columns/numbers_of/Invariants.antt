use Rattle.std.proofs.Common.{◌≡◌, map, take}
use Rattle.basinmug_run.specs.Columns.{number_if_shown}
use Rattle.basinmug_run.proofs.columns.numbers_of.Given as goal

abbrev pub invariant-loop-column : goal.invariant-loop-column
invariant-loop-column l = l.numbers.items ≡ map number_if_shown (take l.column-index l.shown)
