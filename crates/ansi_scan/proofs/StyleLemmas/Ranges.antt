-- A fact about each number of a range, from the fact at each.
use Rattle.std.proofs.Common.{ℕ, zero, suc, ◌+◌, ◌-◌, ◌<◌, ◌≤◌, ◌&&◌, subst, arith, nat_le}
use Rattle.std.specs.Prelude.{IsTrue}
use Rattle.std.proofs.lemmas.Bool.{and_parts, leb-true}

-- the fact at `count` numbers from `low` on
abbrev pub Each : (ℕ → Type 0) → ℕ → ℕ → Type 0
Each P low zero = Unit {0}
Each P low (suc count) = P low × Each P (low + 1) count

pub each_at : (P : ℕ → Type 0) (low count k : ℕ) → Each P low count → k < count → P (low + k)
each_at P low zero k each below = absurd (omega arith)
each_at P low (suc count) zero each below = subst P (omega arith) each.0
each_at P low (suc count) (suc k) each below =
    subst P (omega arith) (each_at P (low + 1) count k each.1 (omega arith))

pub each_in_range : (P : ℕ → Type 0) (low high : ℕ) → Each P low (high + 1 - low) → (n : ℕ) → IsTrue (nat_le low n && nat_le n high) → P n
each_in_range P low high each n inside =
    let above : low ≤ n = leb-true low n (and_parts (nat_le low n) (nat_le n high) inside).0 in
    let below : n ≤ high = leb-true n high (and_parts (nat_le low n) (nat_le n high) inside).1 in
    subst P (omega arith) (each_at P low (high + 1 - low) (n - low) each (omega arith))
