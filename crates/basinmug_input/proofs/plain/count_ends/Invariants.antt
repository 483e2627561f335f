-- No more than all bytes are looked at.
use Rattle.std.proofs.Common.{◌-◌, ◌≤◌, length}
use Rattle.basinmug_input.proofs.plain.count_ends.Given as goal

abbrev pub invariant-loop-at : goal.invariant-loop-at
invariant-loop-at l = l.at ≤ length l.bytes

abbrev pub decreases-loop-at : goal.decreases-loop-at
decreases-loop-at l = length l.bytes - l.at
