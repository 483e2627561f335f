use Rattle.std.proofs.Common.{◌≡◌, ◌<◌, ◌≤◌, ℕ, get_or, length, max}
use Rattle.tabled_size_priority.proofs.least.raise.Given as goal

-- the columns before this one are raised
abbrev pub invariant-loop-column : goal.invariant-loop-column
invariant-loop-column l = record {
  size : length l.leasts ≡ length l.fn.leasts;
  raised : (i : ℕ) → i < l.column → get_or l.leasts i 0 ≡ max (get_or l.fn.leasts i 0) (get_or l.others i 0);
  others : (i : ℕ) → l.column ≤ i → get_or l.leasts i 0 ≡ get_or l.fn.leasts i 0;
}
