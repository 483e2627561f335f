-- Reads that gave bytes, counted in two parts.
use Rattle.std.proofs.Common.{◌≡◌, ◌≤◌, ◌<◌, ◌+◌, ◌%◌, ◌^◌, arith, ℕ}

-- after so many, and then at most so many more
pub given-both : (before mid after first most limit : ℕ) → before < 2 ^ 64 → first + most ≤ limit → mid ≡ (before + first) % 2 ^ 64 → (n : ℕ) × (n ≤ most) × (after ≡ (mid + n) % 2 ^ 64)
    → (n : ℕ) × (n ≤ limit) × (after ≡ (before + n) % 2 ^ 64)
given-both before mid after first most limit below fits is (n, few, then) = (first + n, omega (arith, fits, few), omega (arith, below, is, then))
