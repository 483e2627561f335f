-- Sizes that are no less than others, one by one.
use Rattle.std.proofs.Common.{ℕ, zero, suc, ◌+◌, ◌-◌, ◌/◌, ◌^◌, ◌≤◌, Bool, List, [], ◌∷◌, ◌++◌, map, length, sum, take, drop, get_or, subst, arith, fold}
use Rattle.std.proofs.lemmas.List.{take-append-drop}
use Rattle.grid_records_estimate.specs.declared.need.Need.{Need}
use Rattle.grid_records_estimate.specs.Estimates.{boundaries_within, meet, with_shares}
use Rattle.grid_records_estimate.specs.Collecting.{PassesMax}

-- as many, and none is less
abbrev pub Grows : List ℕ → List ℕ → Type 0
Grows [] [] = Unit {0}
Grows [] (y ∷ ys) = ⊥
Grows (x ∷ xs) [] = ⊥
Grows (x ∷ xs) (y ∷ ys) = (x ≤ y) × Grows xs ys

pub Grows-refl : (xs : List ℕ) → Grows xs xs
Grows-refl [] = tt
Grows-refl (x ∷ xs) = (omega arith, Grows-refl xs)

pub Grows-trans : (xs ys zs : List ℕ) → Grows xs ys → Grows ys zs → Grows xs zs
Grows-trans [] [] [] g h = tt
Grows-trans [] [] (z ∷ zs) g h = h
Grows-trans [] (y ∷ ys) zs g h = absurd g
Grows-trans (x ∷ xs) [] zs g h = absurd g
Grows-trans (x ∷ xs) (y ∷ ys) [] g h = h
Grows-trans (x ∷ xs) (y ∷ ys) (z ∷ zs) g h =
    let low : x ≤ y = g.0 in
    let high : y ≤ z = h.0 in
    (omega arith, Grows-trans xs ys zs g.1 h.1)

pub Grows-append : (xs ys us vs : List ℕ) → Grows xs ys → Grows us vs → Grows (xs ++ us) (ys ++ vs)
Grows-append [] [] us vs g h = h
Grows-append [] (y ∷ ys) us vs g h = absurd g
Grows-append (x ∷ xs) [] us vs g h = absurd g
Grows-append (x ∷ xs) (y ∷ ys) us vs g h = (g.0, Grows-append xs ys us vs g.1 h)

Grows-added : (n : ℕ) (xs : List ℕ) → Grows xs (map (λ x. x + n) xs)
Grows-added n [] = tt
Grows-added n (x ∷ xs) = (omega arith, Grows-added n xs)

pub Grows-with_shares : (n : ℕ) (xs : List ℕ) → Grows xs (with_shares n xs)
Grows-with_shares n [] = tt
Grows-with_shares n (x ∷ xs) = (omega arith, Grows-added (n / suc (length xs)) xs)

-- a size that passes the greatest `usize` stays so
pub PassesMax-Grows : (xs ys : List ℕ) → Grows xs ys → PassesMax xs → PassesMax ys
PassesMax-Grows xs ys g p = (p.0, up xs ys p.0 g p.1) where
  up : (xs ys : List ℕ) (k : ℕ) → Grows xs ys → 2 ^ 64 ≤ get_or xs k 0 → 2 ^ 64 ≤ get_or ys k 0
  up [] ys k g h = absurd (omega arith)
  up (x ∷ xs) [] k g h = absurd g
  up (x ∷ xs) (y ∷ ys) zero g h = let low : x ≤ y = g.0 in omega arith
  up (x ∷ xs) (y ∷ ys) (suc k) g h = up xs ys k g.1 h

module _ (has_boundary : ℕ → Bool) where
  pub Grows-meet : (sizes : List ℕ) (need : Need) → Grows sizes (meet has_boundary sizes need)
  Grows-meet sizes need =
      let rest = drop need.first sizes in
      let mid = take need.length rest in
      let lack = need.size - (sum mid + boundaries_within has_boundary need) in
      let inner : Grows (mid ++ drop need.length rest) (with_shares lack mid ++ drop need.length rest)
      = Grows-append mid (with_shares lack mid) _ _ (Grows-with_shares lack mid) (Grows-refl (drop need.length rest)) in
      let P : List ℕ → Type 0 = λ xs. Grows xs (with_shares lack mid ++ drop need.length rest) in
      let later : Grows rest (with_shares lack mid ++ drop need.length rest) = subst P (take-append-drop need.length rest) inner in
      let Q : List ℕ → Type 0 = λ xs. Grows xs (meet has_boundary sizes need) in
      subst Q (take-append-drop need.first sizes) (Grows-append (take need.first sizes) (take need.first sizes) _ _ (Grows-refl (take need.first sizes)) later)

  pub Grows-meet_all : (sizes : List ℕ) (needs : List Need) → Grows sizes (fold (meet has_boundary) sizes needs)
  Grows-meet_all sizes [] = Grows-refl sizes
  Grows-meet_all sizes (need ∷ needs) =
      Grows-trans sizes (meet has_boundary sizes need) (fold (meet has_boundary) (meet has_boundary sizes need) needs)
      (Grows-meet sizes need) (Grows-meet_all (meet has_boundary sizes need) needs)
