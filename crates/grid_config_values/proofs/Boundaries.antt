-- How many boundaries of a table are there.
use Rattle.std.proofs.Common.{◌≡◌, ℕ, zero, suc, ◌+◌, ◌-◌, ◌<◌, ◌≤◌, Bool, if◌then◌else◌, length, refl, arith}
use Rattle.std.proofs.lemmas.Bool.Decides.{nat_tests}
use Rattle.std.specs.List.{filter, range_with_len}
use Rattle.grid_config_values.specs.Glyphs.{BoundaryKind, First, Between, Last, boundary_count, boundary_kind}

-- n numbers from a on at which the test gives one answer, and one more
count_to_last : (f : ℕ → Bool) (between last : Bool) (a n : ℕ) → ((i : ℕ) → a ≤ i → i < a + n → f i ≡ between) → f (a + n) ≡ last →
    length (filter f (range_with_len a (suc n))) ≡ (if between then n else 0) + (if last then 1 else 0)
count_to_last f between last a zero inner end = grind (arith, inner, end)
count_to_last f between last a (suc n) inner end =
    let same : a + 1 + n ≡ a + suc n = omega arith in
    let shifted : f (a + 1 + n) ≡ last = rw same end in
    grind (arith, inner a, count_to_last f between last (a + 1) n (λ i low high. inner i (omega arith) (omega arith)) shifted)

pub counted : (is_there : BoundaryKind → Bool) (n : ℕ) → 0 < n →
    boundary_count is_there n ≡ (if is_there First then 1 else 0) + (if is_there Between then n - 1 else 0) + (if is_there Last then 1 else 0)
counted is_there zero above = absurd (omega arith)
counted is_there (suc m) above =
    let f : ℕ → Bool = λ i. is_there (boundary_kind i (suc m)) in
    let numbers : suc m + 1 ≡ suc (suc m) = omega arith in
    let first : f 0 ≡ is_there First = refl in
    let inner : (i : ℕ) → 1 ≤ i → i < 1 + m → f i ≡ is_there Between = λ i low high. grind (arith, nat_tests) in
    let last : f (1 + m) ≡ is_there Last = grind (arith, nat_tests) in
    rw numbers (grind (arith, first, count_to_last f (is_there Between) (is_there Last) 1 m inner last))
