-- What is passed is plain.
use Rattle.std.proofs.Common.{◌≡◌, ◌-◌, ◌<◌, ◌≤◌, ℕ, get_or, length, true}
use Rattle.basinmug_input.specs.Parts.{is_plain}
use Rattle.basinmug_input.proofs.plain.last_plain_end.Given as goal

abbrev pub invariant-loop-at : goal.invariant-loop-at
invariant-loop-at l = record {
  above : l.start ≤ l.at;
  within : l.at ≤ length l.bytes;
  plain : (k : ℕ) → l.start ≤ k → k < l.at → is_plain l.delimiter (get_or l.bytes k 0) ≡ true;
}

abbrev pub decreases-loop-at : goal.decreases-loop-at
decreases-loop-at l = length l.bytes - l.at
