use Rattle.std.proofs.Common.{ℕ, ◌<◌, ◌≤◌, get_or, length}
use Rattle.tabled_size_priority.proofs.right.PriorityRightPeaker.peak.Given as goal

abbrev pub invariant-loop-column : goal.invariant-loop-column
invariant-loop-column l = (other : ℕ) → l.column ≤ other → other < length l.values → get_or l.values other 0 ≤ get_or l.mins other 0
