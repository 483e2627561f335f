use Rattle.std.proofs.Common.{◌≡◌, ℕ, ◌<◌, ◌≤◌, get_or, length, sum, take}
use Rattle.columns_table.proofs.placed.starts_of.Given as goal

-- the counts before `i` are where their rows begin, and the others are as they were
abbrev pub invariant-loop-i : goal.invariant-loop-i
invariant-loop-i l = record {
  long : length l.counts.items ≡ length l.initial.counts.items;
  done : (k : ℕ) → k < l.i → get_or l.counts.items k 0 ≡ sum (take k l.initial.counts.items);
  same : (k : ℕ) → l.i ≤ k → get_or l.counts.items k 0 ≡ get_or l.initial.counts.items k 0;
  start : l.start ≡ sum (take l.i l.initial.counts.items);
}
