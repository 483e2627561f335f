use Rattle.std.proofs.Common.{◌≡◌, ℕ, ◌<◌, ◌≤◌, get_or}
use Rattle.columns_table.specs.Least.{padded}
use Rattle.columns_table.proofs.least.pad.Given as goal

abbrev pub invariant-loop-size : goal.invariant-loop-size
invariant-loop-size l = record {
  done : (k : ℕ) → k < l.size-index → get_or l.sizes k 0 ≡ padded l.before l.behind (get_or l.initial.sizes k 0);
  same : (k : ℕ) → l.size-index ≤ k → get_or l.sizes k 0 ≡ get_or l.initial.sizes k 0;
}
