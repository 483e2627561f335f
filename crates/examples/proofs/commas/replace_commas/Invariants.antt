use Rattle.std.proofs.Common.{◌≡◌, ℕ, ◌<◌, ◌≤◌, get_or}
use Rattle.examples.specs.Commas.{tab_for}
use Rattle.examples.proofs.commas.replace_commas.Given as goal

abbrev pub invariant-loop-byte : goal.invariant-loop-byte
invariant-loop-byte l = record {
  replaced : (k : ℕ) → k < l.byte-index → get_or l.bytes k 0 ≡ tab_for (get_or l.initial.bytes k 0);
  same : (k : ℕ) → l.byte-index ≤ k → get_or l.bytes k 0 ≡ get_or l.initial.bytes k 0;
}
