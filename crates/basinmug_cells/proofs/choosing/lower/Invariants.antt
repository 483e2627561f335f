use Rattle.std.proofs.Common.{◌≡◌, ℕ, ◌-◌, ◌<◌, ◌≤◌, get_or, length}
use Rattle.basinmug_cells.proofs.choosing.lower.Given as goal

-- the numbers before it are turned, and the others are as they were
abbrev pub invariant-loop-i : goal.invariant-loop-i
invariant-loop-i l = record {
  long : length l.numbers.items ≡ length l.initial.numbers.items;
  low : (k : ℕ) → k < l.from → get_or l.numbers.items k 0 ≡ get_or l.initial.numbers.items k 0;
  done : (k : ℕ) → l.from ≤ k → k < l.i → get_or l.numbers.items k 0 ≡ get_or l.initial.numbers.items k 0 - l.by;
  same : (k : ℕ) → l.i ≤ k → get_or l.numbers.items k 0 ≡ get_or l.initial.numbers.items k 0;
}
