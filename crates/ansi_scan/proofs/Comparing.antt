-- What the comparisons of numbers return, where it is known which number is the greater.
use Rattle.std.proofs.Common.{◌≡◌, ℕ, ◌<◌, ◌≤◌, ◌==◌, nat_le, nat_lt, true, false, arith}
use Rattle.std.proofs.lemmas.Bool.Decides.{nat_tests}

pub below : (k n : ℕ) → k < n → nat_lt k n ≡ true
below k n h = grind (arith, nat_tests, h)

pub not_below : (k n : ℕ) → n ≤ k → nat_lt k n ≡ false
not_below k n h = grind (arith, nat_tests, h)

pub at_most : (k n : ℕ) → k ≤ n → nat_le k n ≡ true
at_most k n h = grind (arith, nat_tests, h)

pub not_at_most : (k n : ℕ) → n < k → nat_le k n ≡ false
not_at_most k n h = grind (arith, nat_tests, h)

pub not_zero : (n : ℕ) → 0 < n → (n == 0) ≡ false
not_zero n h = grind (arith, nat_tests, h)
