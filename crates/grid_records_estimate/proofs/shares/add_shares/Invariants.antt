use Rattle.std.proofs.Common.{◌≡◌, ℕ, ◌+◌, ◌<◌, ◌≤◌, get_or}
use Rattle.grid_records_estimate.proofs.shares.add_shares.Given as goal

abbrev pub invariant-loop-size : goal.invariant-loop-size
invariant-loop-size l = record {
  grown : (k : ℕ) → k < l.size-index → get_or l.sizes k 0 ≡ get_or l.initial.sizes k 0 + l.share;
  same : (k : ℕ) → l.size-index ≤ k → get_or l.sizes k 0 ≡ get_or l.initial.sizes k 0;
}
