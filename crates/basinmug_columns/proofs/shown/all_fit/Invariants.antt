-- What the columns so far cost is gone.
use Rattle.std.proofs.Common.{◌≡◌, ◌+◌, sum, take}
use Rattle.basinmug_columns.proofs.shown.all_fit.Given as goal

abbrev pub invariant-loop-cost : goal.invariant-loop-cost
invariant-loop-cost l = l.left + sum (take l.cost-index l.costs) ≡ l.room
