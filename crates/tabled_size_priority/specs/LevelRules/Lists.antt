-- Lists by their elements, and their sums.
use Rattle.std.proofs.Common.{◌≡◌, ℕ, suc, ◌+◌, ◌<◌, ◌≤◌, List, [], ◌∷◌, map, length, get_or, sum, refl, sym, ◌∙◌, subst, arith, ◌≢◌, set, inl, inr, get_or-set_same, get_or-set_other}
use Rattle.std.proofs.lemmas.List.{ext_get_or}
use Rattle.std.proofs.lemmas.List.FromFn.{get_or-map-range_with_len, length-map-range_with_len}
use Rattle.std.proofs.lemmas.List.Sums.{sum_by-cons, sum_by-set}
use Rattle.std.proofs.lemmas.Bool.{cases_order}
use Rattle.std.proofs.lemmas.Bool.Decides.{nat_tests}
use Rattle.std.specs.Prelude.{nat_lt, true, false}
use Rattle.std.specs.List.{range_with_len}

pub sum-cons : (x : ℕ) (xs : List ℕ) → sum (x ∷ xs) ≡ x + sum xs
sum-cons x xs = sum_by-cons (λ (y : ℕ). y) x xs

pub sum-le : (xs ys : List ℕ) → length xs ≡ length ys → ((i : ℕ) → i < length xs → get_or xs i 0 ≤ get_or ys i 0) → sum xs ≤ sum ys
sum-le [] ys size le = omega arith
sum-le (x ∷ xs) [] size le = absurd (omega arith)
sum-le (x ∷ xs) (y ∷ ys) size le =
    let shorter : length xs ≡ length ys = omega arith in
    let first : x ≤ y = le 0 (omega arith) in
    let rest : sum xs ≤ sum ys = sum-le xs ys shorter (λ i below. le (suc i) (omega arith)) in
    omega (arith, sum-cons x xs, sum-cons y ys)

-- lists of one sum are the same where no element of the one is above that of the other
pub sum-same : (xs ys : List ℕ) → length xs ≡ length ys → ((i : ℕ) → i < length xs → get_or xs i 0 ≤ get_or ys i 0) → sum xs ≡ sum ys → xs ≡ ys
sum-same [] [] size le total = refl
sum-same [] (y ∷ ys) size le total = absurd (omega arith)
sum-same (x ∷ xs) [] size le total = absurd (omega arith)
sum-same (x ∷ xs) (y ∷ ys) size le total =
    let shorter : length xs ≡ length ys = omega arith in
    let first : x ≤ y = le 0 (omega arith) in
    let rest_le : (i : ℕ) → i < length xs → get_or xs i 0 ≤ get_or ys i 0 = λ i below. le (suc i) (omega arith) in
    let rest : sum xs ≤ sum ys = sum-le xs ys shorter rest_le in
    let same : x ≡ y = omega (arith, sum-cons x xs, sum-cons y ys) in
    let others : xs ≡ ys = sum-same xs ys shorter rest_le (omega (arith, sum-cons x xs, sum-cons y ys)) in
    cc

pub at_column : (f : ℕ → ℕ) (n i : ℕ) → i < n → get_or (map f (range_with_len 0 n)) i 0 ≡ f i
at_column f n i below = let same : 0 + i ≡ i = omega arith in get_or-map-range_with_len f 0 n i i 0 below same

-- a list is what it is at its columns
pub from_columns : (f : ℕ → ℕ) (n : ℕ) (xs : List ℕ) → length xs ≡ n → ((i : ℕ) → i < n → get_or xs i 0 ≡ f i) → xs ≡ map f (range_with_len 0 n)
from_columns f n xs size same =
    ext_get_or 0 xs (map f (range_with_len 0 n)) (size ∙ sym (length-map-range_with_len f 0 n))
    (λ i below. let inside : i < n = omega arith in same i inside ∙ sym (at_column f n i inside))

-- a sum, term by term
pub sum-added : (f g h : ℕ → ℕ) (xs : List ℕ) → ((i : ℕ) → f i + g i ≡ h i) → sum (map f xs) + sum (map g xs) ≡ sum (map h xs)
sum-added f g h [] same = refl
sum-added f g h (x ∷ xs) same =
    let first : f x + g x ≡ h x = same x in
    let rest : sum (map f xs) + sum (map g xs) ≡ sum (map h xs) = sum-added f g h xs same in
    omega (arith, sum-cons (f x) (map f xs), sum-cons (g x) (map g xs), sum-cons (h x) (map h xs))

at_columns : (f g : ℕ → ℕ) (n : ℕ) → ((i : ℕ) → i < n → f i ≤ g i) → (i : ℕ) → i < length (map f (range_with_len 0 n)) → get_or (map f (range_with_len 0 n)) i 0 ≤ get_or (map g (range_with_len 0 n)) i 0
at_columns f g n le i below =
    let f_length : length (map f (range_with_len 0 n)) ≡ n = length-map-range_with_len f 0 n in
    let inside : i < n = omega arith in
    let here : f i ≤ g i = le i inside in
    let at_f : get_or (map f (range_with_len 0 n)) i 0 ≡ f i = at_column f n i inside in
    let at_g : get_or (map g (range_with_len 0 n)) i 0 ≡ g i = at_column g n i inside in
    omega arith

-- over columns
pub map-le : (f g : ℕ → ℕ) (n : ℕ) → ((i : ℕ) → i < n → f i ≤ g i) → sum (map f (range_with_len 0 n)) ≤ sum (map g (range_with_len 0 n))
map-le f g n le =
    let f_length : length (map f (range_with_len 0 n)) ≡ n = length-map-range_with_len f 0 n in
    let g_length : length (map g (range_with_len 0 n)) ≡ n = length-map-range_with_len g 0 n in
    sum-le (map f (range_with_len 0 n)) (map g (range_with_len 0 n)) (omega arith) (at_columns f g n le)

pub map-equal : (f g : ℕ → ℕ) (n : ℕ) → ((i : ℕ) → i < n → f i ≡ g i) → map f (range_with_len 0 n) ≡ map g (range_with_len 0 n)
map-equal f g n same = from_columns g n (map f (range_with_len 0 n)) (length-map-range_with_len f 0 n) (λ i inside. at_column f n i inside ∙ same i inside)

-- sizes of one form and one sum are the same where the one is nowhere above the other
pub map-same : (f g : ℕ → ℕ) (n : ℕ) → ((i : ℕ) → i < n → f i ≤ g i) → sum (map f (range_with_len 0 n)) ≡ sum (map g (range_with_len 0 n)) → map f (range_with_len 0 n) ≡ map g (range_with_len 0 n)
map-same f g n le total =
    let f_length : length (map f (range_with_len 0 n)) ≡ n = length-map-range_with_len f 0 n in
    let g_length : length (map g (range_with_len 0 n)) ≡ n = length-map-range_with_len g 0 n in
    sum-same (map f (range_with_len 0 n)) (map g (range_with_len 0 n)) (omega arith)
    (at_columns f g n le)
    total

pub sum-set : (xs : List ℕ) (i v : ℕ) → i < length xs → sum (set xs i v) + get_or xs i 0 ≡ sum xs + v
sum-set xs i v below = sum_by-set (λ (x : ℕ). x) xs i v 0 below

-- what holds of the element that is set and of each other one holds of each
pub set_cases : (P : ℕ → ℕ → Type 0) (xs : List ℕ) (p v : ℕ) → p < length xs → P p v → ((i : ℕ) → i ≢ p → P i (get_or xs i 0)) → (i : ℕ) → P i (get_or (set xs p v) i 0)
set_cases P xs p v inside here others i =
    let at_other : i ≢ p → P i (get_or (set xs p v) i 0) = λ (other : i ≢ p). subst (P i) (sym (get_or-set_other xs p i v 0 other)) (others i other) in
    let at_p : P p (get_or (set xs p v) p 0) = subst (P p) (sym (get_or-set_same xs p v 0 inside)) here in
    elim (cases_order i p) [
      | inl same ↦ let Q : ℕ → Type 0 = λ (k : ℕ). P k (get_or (set xs p v) k 0) in subst Q (sym same) at_p
      | inr other ↦ at_other (λ (same : i ≡ p). elim other [ inl less ↦ omega arith | inr more ↦ omega arith ])
    ]

-- ---- tests

pub lt-true : (a b : ℕ) → a < b → nat_lt a b ≡ true
lt-true a b h = grind (arith, nat_tests)

pub lt-false : (a b : ℕ) → b ≤ a → nat_lt a b ≡ false
lt-false a b h = grind (arith, nat_tests)
