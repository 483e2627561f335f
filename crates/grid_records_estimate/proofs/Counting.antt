-- Needs in order are one list where each is in it so many times.
use Rattle.std.proofs.Common.{◌≡◌, ℕ, ◌+◌, ◌==◌, ◌&&◌, ◌<◌, Bool, true, false, if◌then◌else◌, List, [], ◌∷◌, refl, ap, sym, ◌∙◌, subst, arith}
use Rattle.std.proofs.lemmas.Bool.Decides.{nat_tests}
use Rattle.grid_records_estimate.specs.declared.need.Need.{Need}
use Rattle.grid_records_estimate.proofs.Each.{Each}
use Rattle.grid_records_estimate.proofs.Order.{Le, Le-antisym, Sorted, same_need}
use Rattle.grid_records_estimate.proofs.Totalling.{total_by}

abbrev pub same : Need → Need → Bool
same a b = a.length == b.length && (a.first == b.first && (a.cross_track == b.cross_track && a.size == b.size))

pub same-refl : (a : Need) → same a a ≡ true
same-refl a = grind (arith, nat_tests)

pub same-true : (a b : Need) → same a b ≡ true → a ≡ b
same-true a b h = same_need a b (grind (arith, nat_tests)) (grind (arith, nat_tests)) (grind (arith, nat_tests)) (grind (arith, nat_tests))

abbrev pub once : Need → Need → ℕ
once n x = if same n x then 1 else 0

abbrev pub count : Need → List Need → ℕ
count n xs = total_by (λ x y. x + y) (once n) xs

pub Each-counted : (P : Need → Type 0) (n : Need) (xs : List Need) → Each P xs → 0 < count n xs → P n
Each-counted P n [] h some = absurd (omega arith)
Each-counted P n (x ∷ xs) h some = step (same n x) refl (Each-counted P n xs h.1) where
  step : (b : Bool) → same n x ≡ b → (0 < count n xs → P n) → P n
  step true e rest = subst P (sym (same-true n x e)) h.0
  step false e rest =
      let none : once n x ≡ 0 = rw e in
      rest (omega arith)

first-counted : (x : Need) (xs : List Need) → 0 < count x (x ∷ xs)
first-counted x xs = let one : once x x ≡ 1 = rw (same-refl x) in omega arith

pub unique : (xs ys : List Need) → Sorted xs → Sorted ys → ((n : Need) → count n xs ≡ count n ys) → xs ≡ ys
unique [] [] s t h = refl
unique [] (y ∷ ys) s t h = let some = first-counted y ys in let e = h y in absurd (omega arith)
unique (x ∷ xs) [] s t h = let some = first-counted x xs in let e = h x in absurd (omega arith)
unique (x ∷ xs) (y ∷ ys) s t h =
    let Le-refl : (a : Need) → Le a a = λ a. record { length = omega arith; first = λ _. omega arith; cross_track = λ _ _. omega arith; size = λ _ _ _. omega arith } in
    let some = first-counted x xs in
    let other = first-counted y ys in
    let e = h x in
    let f = h y in
    let up : Le y x = Each-counted (Le y) x (y ∷ ys) (Le-refl y, t.0) (omega arith) in
    let down : Le x y = Each-counted (Le x) y (x ∷ xs) (Le-refl x, s.0) (omega arith) in
    let heads : x ≡ y = Le-antisym x y down up in
    let tails : (n : Need) → count n xs ≡ count n ys = λ n.
    let all = h n in
    let head : once n x ≡ once n y = ap (once n) heads in
    omega arith in
    ap (λ z. z ∷ xs) heads ∙ ap (λ zs. y ∷ zs) (unique xs ys s.1 t.1 tails)
