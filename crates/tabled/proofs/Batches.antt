-- Multiples of a batch, none of which passes the greatest `usize`.
use Rattle.std.proofs.Common.{◌≡◌, ℕ, zero, suc, ◌+◌, ◌-◌, ◌*◌, ◌/◌, ◌%◌, ◌^◌, ◌<◌, ◌≤◌, ◌==◌, true, false, cond, [], ◌∷◌, map, min, refl, ap, sym, subst, ◌∙◌, arith}
use Rattle.std.specs.List.{range_with_len}
use Rattle.std.proofs.Math.Nat.{div-mul-le_self, mul-le-mul_right}
use Rattle.tabled.specs.RowBatches.{batches, multiples, values_from}

next_multiple : (i b : ℕ) → (i + 1) * b ≡ i * b + b
next_multiple i b = omega arith

-- the values from one on, where the last of them is in range
multiples_from : (left i n b : ℕ) → n ≡ i * b → (0 < left → (i + left - 1) * b < 2 ^ 64) → values_from n b left ≡ map (λ k. k * b) (range_with_len i left)
multiples_from zero i n b is inside = refl
multiples_from (suc zero) i n b is inside = ap (λ first. first ∷ []) is
multiples_from (suc (suc left)) i n b is inside =
    let last : (i + 1 + left) * b < 2 ^ 64 = subst (λ m. m * b < 2 ^ 64) (omega arith) (inside (omega arith)) in
    let below : (i + 1) * b ≤ (i + 1 + left) * b = mul-le-mul_right b (omega arith) in
    let next : min (n + b) (2 ^ 64 - 1) ≡ (i + 1) * b = omega (arith, below, last, next_multiple i b, is) in
    ap (λ first. first ∷ values_from (min (n + b) (2 ^ 64 - 1)) b (suc left)) is
    ∙ ap (λ rest. i * b ∷ rest) (multiples_from (suc left) (i + 1) (min (n + b) (2 ^ 64 - 1)) b next (λ some. subst (λ m. m * b < 2 ^ 64) (omega arith) last))

-- of the batches of so many rows the last begins in range
last_in_range : (rows b : ℕ) → rows < 2 ^ 64 → 0 < batches rows b → (batches rows b - 1) * b < 2 ^ 64
last_in_range rows b small =
    elim (b == 0) as (λ none. 0 < cond none 0 (cond (rows % b == 0) (rows / b) (rows / b + 1)) → (cond none 0 (cond (rows % b == 0) (rows / b) (rows / b + 1)) - 1) * b < 2 ^ 64) [
      | true ↦ λ some. absurd (omega (arith, some))
      | false ↦ elim (rows % b == 0) as (λ whole. 0 < cond whole (rows / b) (rows / b + 1) → (cond whole (rows / b) (rows / b + 1) - 1) * b < 2 ^ 64) [
        | true ↦ λ some. let less : (rows / b - 1) * b ≤ rows / b * b = mul-le-mul_right b (omega arith) in omega (arith, less, div-mul-le_self rows b)
        | false ↦ λ some. let same : rows / b + 1 - 1 ≡ rows / b = omega arith in subst (λ m. m * b < 2 ^ 64) (sym same) (omega (arith, div-mul-le_self rows b))
      ]
    ]

pub all_multiples : (rows b : ℕ) → rows < 2 ^ 64 → values_from 0 b (batches rows b) ≡ multiples (batches rows b) b
all_multiples rows b small = multiples_from (batches rows b) 0 0 b (omega arith) (λ some. subst (λ m. m * b < 2 ^ 64) (omega arith) (last_in_range rows b small some))

-- the first of the values that are left
pub first_value : (next b left : ℕ) → 0 < left → values_from next b left ≡ next ∷ values_from (min (next + b) (2 ^ 64 - 1)) b (left - 1)
first_value next b zero some = absurd (omega (arith, some))
first_value next b (suc left) some = let same : left ≡ suc left - 1 = omega arith in ap (λ n. next ∷ values_from (min (next + b) (2 ^ 64 - 1)) b n) same
