-- What the columns so far cost is gone.
use Rattle.std.proofs.Common.{◌≡◌, ◌+◌, sum}
use Rattle.basinmug_columns.specs.Shown.{kept}
use Rattle.basinmug_columns.proofs.shown.count_in.Given as goal

abbrev pub invariant-loop-shown : goal.invariant-loop-shown
invariant-loop-shown l = l.left + sum (kept l.shown l.costs) ≡ l.room
