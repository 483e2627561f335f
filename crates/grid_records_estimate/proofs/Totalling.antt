-- The total of a measure over a list, by an operation with 0 as its unit: a sum, or the greatest.
use Rattle.std.proofs.Common.{◌≡◌, ◌≢◌, ℕ, zero, suc, ◌+◌, ◌==◌, ◌≤◌, Bool, true, false, max, if◌then◌else◌, List, [], ◌∷◌, ◌++◌, map, refl, ap, sym, ◌∙◌, arith, nat_lt, sum_by}
use Rattle.std.specs.List.{filter, flat_map, range_with_len}
use Rattle.std.specs.List.Sorted.{IsPermutation}
use Rattle.std.proofs.lemmas.Bool.Decides.{nat_tests}
use Rattle.std.proofs.lemmas.List.Sums.{sum_by-cons}
use Rattle.std.proofs.lemmas.List.Sorted.{All-permutation, IsPermutation-sym, sum_by-IsPermutation}
use Rattle.grid_records_estimate.specs.Estimates.{greatest}
use Rattle.grid_records_estimate.proofs.Each.{Each, All-from_Each, Each-from_All}

pub record IsMonoid (op : ℕ → ℕ → ℕ) : Type 0 where
  pub left : (x : ℕ) → op 0 x ≡ x
  pub right : (x : ℕ) → op x 0 ≡ x
  pub grouped : (x y z : ℕ) → op (op x y) z ≡ op x (op y z)
  pub either : (x y : ℕ) → op x y ≡ op y x

pub sums : IsMonoid (λ x y. x + y)
sums = record { left = λ x. omega arith; right = λ x. omega arith; grouped = λ x y z. omega arith; either = λ x y. omega arith }

pub maxima : IsMonoid (λ x y. max x y)
maxima = record { left = λ x. omega arith; right = λ x. omega arith; grouped = λ x y z. omega arith; either = λ x y. omega arith }

abbrev pub total_by : {X : Type 0} → (ℕ → ℕ → ℕ) → (X → ℕ) → List X → ℕ
total_by op f [] = 0
total_by op f (x ∷ xs) = op (f x) (total_by op f xs)

module _ (op : ℕ → ℕ → ℕ) (m : IsMonoid op) where
  pub total_by-append : {X : Type 0} (f : X → ℕ) (xs ys : List X) → total_by op f (xs ++ ys) ≡ op (total_by op f xs) (total_by op f ys)
  total_by-append f [] ys = sym (m.left (total_by op f ys))
  total_by-append f (x ∷ xs) ys = ap (op (f x)) (total_by-append f xs ys) ∙ sym (m.grouped (f x) (total_by op f xs) (total_by op f ys))

  pub total_by-map : {X Y : Type 0} (f : Y → ℕ) (g : X → Y) (xs : List X) → total_by op f (map g xs) ≡ total_by op (λ x. f (g x)) xs
  total_by-map f g [] = refl
  total_by-map f g (x ∷ xs) = ap (op (f (g x))) (total_by-map f g xs)

  total_by-filter-step : {X : Type 0} (f : X → ℕ) (p : X → Bool) (x : X) (xs : List X) (t : ℕ) → total_by op f (filter p xs) ≡ t
      → (b : Bool) → p x ≡ b → total_by op f (filter p (x ∷ xs)) ≡ op (if p x then f x else 0) t
  total_by-filter-step f p x xs t h true e = rw e (ap (op (f x)) h)
  total_by-filter-step f p x xs t h false e = rw e (h ∙ sym (m.left t))

  pub total_by-filter : {X : Type 0} (f : X → ℕ) (p : X → Bool) (xs : List X) → total_by op f (filter p xs) ≡ total_by op (λ x. if p x then f x else 0) xs
  total_by-filter f p [] = refl
  total_by-filter f p (x ∷ xs) = total_by-filter-step f p x xs (total_by op (λ y. if p y then f y else 0) xs) (total_by-filter f p xs) (p x) refl

  pub total_by-flat_map : {X Y : Type 0} (f : Y → ℕ) (g : X → List Y) (xs : List X) → total_by op f (flat_map g xs) ≡ total_by op (λ x. total_by op f (g x)) xs
  total_by-flat_map f g [] = refl
  total_by-flat_map f g (x ∷ xs) = total_by-append f (g x) (flat_map g xs) ∙ ap (op (total_by op f (g x))) (total_by-flat_map f g xs)

  pub total_by-cong : {X : Type 0} (f g : X → ℕ) (xs : List X) → Each (λ x. f x ≡ g x) xs → total_by op f xs ≡ total_by op g xs
  total_by-cong f g [] h = refl
  total_by-cong f g (x ∷ xs) h = ap (λ n. op n (total_by op f xs)) h.0 ∙ ap (op (g x)) (total_by-cong f g xs h.1)

  pub total_by-same : {X : Type 0} (f g : X → ℕ) → ((x : X) → f x ≡ g x) → (xs : List X) → total_by op f xs ≡ total_by op g xs
  total_by-same f g h [] = refl
  total_by-same f g h (x ∷ xs) = ap (λ n. op n (total_by op f xs)) (h x) ∙ ap (op (g x)) (total_by-same f g h xs)

  pub total_by-none : {X : Type 0} (f : X → ℕ) → ((x : X) → f x ≡ 0) → (xs : List X) → total_by op f xs ≡ 0
  total_by-none f h [] = refl
  total_by-none f h (x ∷ xs) = ap (λ n. op n (total_by op f xs)) (h x) ∙ m.left (total_by op f xs) ∙ total_by-none f h xs

  single-step : (x y t k a n : ℕ) → (a ≡ k → x ≡ y) → (a ≢ k → x ≡ 0)
      → t ≡ (if nat_lt k (a + 1) then 0 else if nat_lt k (a + 1 + n) then y else 0)
      → (b : Bool) → (a == k) ≡ b
      → op x t ≡ (if nat_lt k a then 0 else if nat_lt k (a + suc n) then y else 0)
  single-step x y t k a n here there rest true e =
      let same : a ≡ k = grind (arith, nat_tests) in
      let none : t ≡ 0 = grind (arith, nat_tests) in
      let all : (if nat_lt k a then 0 else if nat_lt k (a + suc n) then y else 0) ≡ y = grind (arith, nat_tests) in
      ap (λ u. op u t) (here same) ∙ ap (op y) none ∙ m.right y ∙ sym all
  single-step x y t k a n here there rest false e =
      let other : a ≢ k = grind (arith, nat_tests) in
      ap (λ u. op u t) (there other) ∙ m.left t ∙ rest ∙ grind (arith, nat_tests)

  -- numbers from a on of which one counts at most
  pub total_by-single : (f : ℕ → ℕ) (k : ℕ) → ((j : ℕ) → j ≢ k → f j ≡ 0) → (a n : ℕ)
      → total_by op f (range_with_len a n) ≡ (if nat_lt k a then 0 else if nat_lt k (a + n) then f k else 0)
  total_by-single f k h a zero = grind (arith, nat_tests)
  total_by-single f k h a (suc n) =
      single-step (f a) (f k) (total_by op f (range_with_len (a + 1) n)) k a n (λ e. ap f e) (h a) (total_by-single f k h (a + 1) n) (a == k) refl

-- ---- in any order

sum_by-total : {X : Type 0} (f : X → ℕ) (xs : List X) → sum_by f xs ≡ total_by (λ x y. x + y) f xs
sum_by-total f [] = refl
sum_by-total f (x ∷ xs) = sum_by-cons f x xs ∙ ap (λ n. f x + n) (sum_by-total f xs)

pub total_by-IsPermutation : {X : Type 0} (f : X → ℕ) (xs ys : List X) → IsPermutation xs ys → total_by (λ x y. x + y) f ys ≡ total_by (λ x y. x + y) f xs
total_by-IsPermutation f xs ys h = sym (sum_by-total f ys) ∙ sum_by-IsPermutation f xs ys h ∙ sum_by-total f xs

-- the greatest, as a total
pub greatest-total : {X : Type 0} (f : X → ℕ) (xs : List X) → greatest (map f xs) ≡ total_by (λ x y. max x y) f xs
greatest-total f [] = refl
greatest-total f (x ∷ xs) = ap (λ n. max (f x) n) (greatest-total f xs)

bounded : {X : Type 0} (f : X → ℕ) (n : ℕ) (xs : List X) → Each (λ x. f x ≤ n) xs → total_by (λ x y. max x y) f xs ≤ n
bounded f n [] h = omega arith
bounded f n (x ∷ xs) h = let first : f x ≤ n = h.0 in let rest = bounded f n xs h.1 in omega arith

among : {X : Type 0} (f : X → ℕ) (n : ℕ) (xs : List X) → total_by (λ x y. max x y) f xs ≤ n → Each (λ x. f x ≤ n) xs
among f n [] h = tt
among f n (x ∷ xs) h = (omega arith, among f n xs (omega arith))

no_more : {X : Type 0} (f : X → ℕ) (xs ys : List X) → IsPermutation xs ys → total_by (λ x y. max x y) f ys ≤ total_by (λ x y. max x y) f xs
no_more {X} f xs ys h =
    let n = total_by (λ x y. max x y) f xs in
    let P : X → Type 0 = λ x. f x ≤ n in
    bounded f n ys (Each-from_All P ys (All-permutation P xs ys h (All-from_Each P xs (among f n xs (omega arith)))))

pub greatest-IsPermutation : {X : Type 0} (f : X → ℕ) (xs ys : List X) → IsPermutation xs ys → total_by (λ x y. max x y) f ys ≡ total_by (λ x y. max x y) f xs
greatest-IsPermutation f xs ys h =
    let up = no_more f xs ys h in
    let down = no_more f ys xs (IsPermutation-sym xs ys h) in
    omega arith
