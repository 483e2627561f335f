-- The bytes that were passed are printable.
use Rattle.std.proofs.Common.{◌≡◌, ℕ, ◌-◌, ◌<◌, ◌≤◌, true, get_or, length}
use Rattle.std.specs.Int.{is_in_range}
use Rattle.columns_run.proofs.styled_rows.printable_len.Given as goal

abbrev pub invariant-loop-size : goal.invariant-loop-size
invariant-loop-size l = (l.size ≤ length l.bytes) × ((k : ℕ) → k < l.size → is_in_range 0x20 0x7E (get_or l.bytes k 0) ≡ true)

abbrev pub decreases-loop-size : goal.decreases-loop-size
decreases-loop-size l = length l.bytes - l.size
