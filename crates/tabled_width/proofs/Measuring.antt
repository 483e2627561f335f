-- The greatest and the smallest of measures, with one more.
use Rattle.std.proofs.Common.{◌≡◌, ℕ, zero, suc, ◌+◌, ◌<◌, ◌==◌, Bool, false, List, [], ◌∷◌, ◌++◌, length, map, max, min, refl, ap, sym, ◌∙◌, arith, if◌then◌else◌}
use Rattle.std.specs.List.{range_with_len}
use Rattle.std.proofs.lemmas.Bool.Decides.{nat_tests}
use Rattle.std.proofs.lemmas.List.FromFn.{length-map-range_with_len, map-range_with_len_more}
use Rattle.grid_records_estimate.specs.Estimates.{greatest, smallest}
use Rattle.grid_records_estimate.proofs.Collects.{greatest-append}

pub greatest-next : (f : ℕ → ℕ) (n : ℕ) → greatest (map f (range_with_len 0 (n + 1))) ≡ max (greatest (map f (range_with_len 0 n))) (f n)
greatest-next f n =
    let so_far : List ℕ = map f (range_with_len 0 n) in
    let here : 0 + n ≡ n = omega arith in
    let alone : max (f n) 0 ≡ f n = omega arith in
    ap greatest (map-range_with_len_more f 0 n n here) ∙ greatest-append so_far (f n ∷ []) ∙ ap (λ m. max (greatest so_far) m) alone

smallest-push : (xs : List ℕ) (x : ℕ) → 0 < length xs → smallest (xs ++ x ∷ []) ≡ min (smallest xs) x
smallest-push [] x some = absurd (omega (arith, some))
smallest-push (y ∷ []) x some = refl
smallest-push (y ∷ z ∷ zs) x some =
    let others : 0 < length (z ∷ zs) = omega arith in
    let rest : smallest ((z ∷ zs) ++ x ∷ []) ≡ min (smallest (z ∷ zs)) x = smallest-push (z ∷ zs) x others in
    ap (min y) rest ∙ (let all : min y (min (smallest (z ∷ zs)) x) ≡ min (min y (smallest (z ∷ zs))) x = omega arith in all)

pub smallest-next : (f : ℕ → ℕ) (n so_far : ℕ) → so_far ≡ smallest (map f (range_with_len 0 n)) → (if n == 0 then f n else min so_far (f n)) ≡ smallest (map f (range_with_len 0 (n + 1)))
smallest-next f zero so_far is = refl
smallest-next f (suc n) so_far is =
    let before : List ℕ = map f (range_with_len 0 (suc n)) in
    let here : 0 + suc n ≡ suc n = omega arith in
    let some : 0 < length before = omega (arith, length-map-range_with_len f 0 (suc n)) in
    let more : (suc n == 0) ≡ false = grind (arith, nat_tests) in
    ap (λ (first : Bool). if first then f (suc n) else min so_far (f (suc n))) more ∙ ap (λ m. min m (f (suc n))) is ∙ sym (ap smallest (map-range_with_len_more f 0 (suc n) (suc n) here) ∙ smallest-push before (f (suc n)) some)
