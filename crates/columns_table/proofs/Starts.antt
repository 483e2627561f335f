-- Parts of the places where texts begin in another.
use Rattle.std.proofs.Common.{◌≡◌, Some, ℕ, zero, suc, ◌+◌, ◌-◌, ◌<◌, ◌≤◌, Bool, true, false, nat_lt, List, [], ◌∷◌, length, take, drop, get_or, refl, ap, sym, subst, ◌∙◌, arith, length-drop}
use Rattle.std.specs.Prelude.{slice_range}
use Rattle.std.proofs.lemmas.Bool.Decides.{nat_tests}
use Rattle.std.specs.List.{slice_get}
use Rattle.std.proofs.lemmas.List.{get_or-drop, get_or-take, length-take}
use Rattle.std.proofs.lemmas.Option.{slice_get-get_or}
use Rattle.grid_records_traits.specs.SingleLines.{AreStarts, IsTextAt, texts_at}
use Rattle.grid_records_traits.proofs.Starts.{get-texts_at, length-texts_at}

drop-none : {X : Type 0} (n : ℕ) → drop n (let none : List X = [] in none) ≡ []
drop-none zero = refl
drop-none (suc n) = refl

take-none : {X : Type 0} (n : ℕ) → take n (let none : List X = [] in none) ≡ []
take-none zero = refl
take-none (suc n) = refl

drop-texts : (n : ℕ) (text starts : List ℕ) → texts_at text (drop n starts) ≡ drop n (texts_at text starts)
drop-texts zero text starts = refl
drop-texts (suc n) text [] = refl
drop-texts (suc n) text (start ∷ []) = ap (texts_at text) (drop-none n)
drop-texts (suc n) text (start ∷ next ∷ starts) = drop-texts n text (next ∷ starts)

-- so many texts take one place more
take-texts : (n : ℕ) (text starts : List ℕ) → texts_at text (take (suc n) starts) ≡ take n (texts_at text starts)
take-texts n text [] = sym (take-none n)
take-texts zero text (start ∷ starts) = refl
take-texts (suc n) text (start ∷ []) = refl
take-texts (suc n) text (start ∷ next ∷ starts) = ap (λ rest. slice_range text start (next - 1) ∷ rest) (take-texts n text (next ∷ starts))

pub range-texts : (text starts : List ℕ) (start end : ℕ) → texts_at text (slice_range starts start (end + 1)) ≡ slice_range (texts_at text starts) start end
range-texts text starts start end = step (nat_lt end start) refl where
  step : (b : Bool) → nat_lt end start ≡ b → texts_at text (slice_range starts start (end + 1)) ≡ slice_range (texts_at text starts) start end
  step true e =
      let before : end < start = grind (arith, nat_tests, e) in
      let none : end + 1 - start ≡ 0 = omega (arith, before) in
      let neither : end - start ≡ 0 = omega (arith, before) in
      ap (λ n. texts_at text (take n (drop start starts))) none ∙ sym (ap (λ n. take n (drop start (texts_at text starts))) neither)
  step false e =
      let after : start ≤ end = grind (arith, nat_tests, e) in
      let one : end + 1 - start ≡ suc (end - start) = omega (arith, after) in
      ap (λ n. texts_at text (take n (drop start starts))) one
      ∙ take-texts (end - start) text (drop start starts)
      ∙ ap (take (end - start)) (drop-texts start text starts)

-- texts begin at each part of the places
pub range-starts : (text starts : List ℕ) (start end : ℕ) → AreStarts text starts → AreStarts text (slice_range starts start end)
range-starts text starts start end begun = λ i below.
    let long = length-take (end - start) (drop start starts) in
    let left = length-drop start starts in
    let here : get_or (slice_range starts start end) i 0 ≡ get_or starts (start + i) 0 =
    get_or-take (end - start) (drop start starts) i 0 (omega (arith, below, long)) ∙ get_or-drop start starts i 0 in
    let behind : start + (i + 1) ≡ start + i + 1 = omega arith in
    let next : get_or (slice_range starts start end) (i + 1) 0 ≡ get_or starts (start + i + 1) 0 =
    get_or-take (end - start) (drop start starts) (i + 1) 0 (omega (arith, below, long)) ∙ get_or-drop start starts (i + 1) 0 ∙ ap (λ k. get_or starts k 0) behind in
    subst (λ n. IsTextAt text n (get_or (slice_range starts start end) (i + 1) 0)) (sym here)
    (subst (IsTextAt text (get_or starts (start + i) 0)) (sym next) (begun (start + i) (omega (arith, below, long, left))))

-- their columns are no more than they are
pub range-within : (widths starts : List ℕ) (start end : ℕ) → length widths ≤ length starts - 1 → length (slice_range widths start end) ≤ length (slice_range starts start (end + 1)) - 1
range-within widths starts start end within =
    omega (arith, within, length-take (end - start) (drop start widths), length-take (end + 1 - start) (drop start starts), length-drop start widths, length-drop start starts)

-- ---- one of them

pub slice_get-texts : (text starts : List ℕ) (i : ℕ) → i + 1 < length starts → slice_get (texts_at text starts) i ≡ Some (slice_range text (get_or starts i 0) (get_or starts (i + 1) 0 - 1))
slice_get-texts text starts i below =
    slice_get-get_or (texts_at text starts) i [] (omega (arith, below, length-texts_at text starts)) ∙ ap (λ found. Some found) (get-texts_at text starts i below)
