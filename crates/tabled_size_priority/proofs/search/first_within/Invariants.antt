use Rattle.std.proofs.Common.{ℕ, ◌<◌, ◌≤◌, get_or}
use Rattle.tabled_size_priority.proofs.search.first_within.Given as goal

abbrev pub invariant-loop-column : goal.invariant-loop-column
invariant-loop-column l = (other : ℕ) → l.start ≤ other → other < l.column → get_or l.widths other 0 ≤ get_or l.least other 0
