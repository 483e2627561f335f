-- The function `shrunk_list` gives the list that widths shrink to.
use Rattle.std.proofs.Common.{◌≡◌, ◌==◌, ◌+◌, ◌-◌, ◌≤◌, ◌<◌, ◌||◌, ℕ, zero, suc, Bool, true, false, cond, List, [], ◌∷◌, Option, Some, length, map, max, min, get_or, sum, refl, ap, sym, subst, ◌∙◌, arith, inl, inr}
use Rattle.std.specs.Prelude.{unwrap_or}
use Rattle.std.specs.List.{AllByRecursion, find, flat_map, list_any, range_with_len}
use Rattle.std.proofs.lemmas.Bool.{cases_lt, cases_order}
use Rattle.std.proofs.lemmas.Bool.Decides.{nat_tests}
use Rattle.std.proofs.lemmas.List.Folds.{list_any-append}
use Rattle.std.proofs.lemmas.List.Sums.{get_or-le-sum_by, sum-map}
use Rattle.papergrid_picture.proofs.Related.{All-append}
use Rattle.tabled_size_priority.specs.LevelRules.Lists.{at_column, map-equal, map-le, map-same, sum-added, sum-cons}
use Rattle.tabled_size_priority.specs.LevelRules.Steps.{IsPlacing, column-placing, side-placing}
use Rattle.tabled_size_priority.specs.Choices.{IsShrunkByChoice}
use Rattle.tabled_size_priority.specs.Columns.{by_width, from_column, from_side, is_narrower}
use Rattle.tabled_size_priority.specs.Laws.Levels.{level_one}
use Rattle.tabled_size_priority.specs.Laws.Order.{order_one}
use Rattle.tabled_size_priority.specs.Laws.Turns.{turns_one}
use Rattle.tabled_size_priority.specs.Laws.Places.{true-narrower, width-placing}
use Rattle.tabled_size_priority.specs.Shrinking.{IsOfForm, size_at_level, floor_of, floors, size_in_order, size_in_turns, shrunk_in_order, shrunk_in_turns, shrunk_sum, shrunk_to_level}
use Rattle.tabled_size_priority.specs.declared.choice.Choice.{Choice}
use Rattle.tabled_size_priority.specs.declared.choice.Choice.TheVariants.{None as InTurns, MinLeft, MinRight, MaxLeft, MaxRight, Left, Right}
use Rattle.columns_asked.specs.Shrunk.{first_of_form, form_of, lists_of_form, shrunk_list}

abbrev one_if : Bool → ℕ
one_if test = cond test 1 0

-- ---- the first of a list

record FoundOne {X : Type 0} (p : X → Bool) (P : X → Type 0) (found : Option X) : Type 0 where
  pub one : X
  pub is : found ≡ Some one
  pub passes : p one ≡ true
  pub has : P one

found-later : {X : Type 0} (p : X → Bool) (P : X → Type 0) (x : X) (rest : Option X) → p x ≡ false → FoundOne p P rest → FoundOne p P (cond (p x) (Some x) rest)
found-later p P x rest e found = record {
  one = found.one;
  is = ap (λ (test : Bool). cond test (Some x) rest) e ∙ found.is;
  passes = found.passes;
  has = found.has;
}

find-one : {X : Type 0} (p : X → Bool) (P : X → Type 0) (xs : List X) → AllByRecursion P xs → list_any p xs ≡ true → FoundOne p P (find p xs)
find-one p P [] all some = absurd (cc some)
find-one {X} p P (x ∷ xs) all some =
    let step : (b : Bool) → p x ≡ b → FoundOne p P (find p (x ∷ xs)) =
    λ b. elim b as (λ b. p x ≡ b → FoundOne p P (find p (x ∷ xs))) [
      | true ↦ λ e. record { one = x; is = ap (λ (test : Bool). cond test (Some x) (find p xs)) e; passes = e; has = all.0 }
      | false ↦ λ e. found-later p P x (find p xs) e (find-one p P xs all.1 (sym (ap (λ (test : Bool). test || list_any p xs) e) ∙ some))
    ] in
    step (p x) refl

or-left : (a b : Bool) → a ≡ true → (a || b) ≡ true
or-left a b e = ap (λ (test : Bool). test || b) e

or-right : (a b : Bool) → b ≡ true → (a || b) ≡ true
or-right true b e = refl
or-right false b e = e

any-map : {X : Type 0} (p : X → Bool) (g : ℕ → X) (a n i : ℕ) → i < n → p (g (a + i)) ≡ true → list_any p (map g (range_with_len a n)) ≡ true
any-map p g a zero i inside passes = absurd (omega (arith, inside))
any-map p g a (suc n) zero inside passes =
    let here : a + 0 ≡ a = omega arith in
    or-left (p (g a)) (list_any p (map g (range_with_len (a + 1) n))) (ap (λ (k : ℕ). p (g k)) (sym here) ∙ passes)
any-map p g a (suc n) (suc i) inside passes =
    let there : a + suc i ≡ (a + 1) + i = omega arith in
    or-right (p (g a)) (list_any p (map g (range_with_len (a + 1) n))) (any-map p g (a + 1) n i (omega (arith, inside)) (ap (λ (k : ℕ). p (g k)) (sym there) ∙ passes))

any-flat : {X : Type 0} (p : X → Bool) (g : ℕ → List X) (a n i : ℕ) → i < n → list_any p (g (a + i)) ≡ true → list_any p (flat_map g (range_with_len a n)) ≡ true
any-flat p g a zero i inside passes = absurd (omega (arith, inside))
any-flat p g a (suc n) zero inside passes =
    let here : a + 0 ≡ a = omega arith in
    list_any-append p (g a) (flat_map g (range_with_len (a + 1) n))
    ∙ or-left (list_any p (g a)) (list_any p (flat_map g (range_with_len (a + 1) n))) (ap (λ (k : ℕ). list_any p (g k)) (sym here) ∙ passes)
any-flat p g a (suc n) (suc i) inside passes =
    let there : a + suc i ≡ (a + 1) + i = omega arith in
    list_any-append p (g a) (flat_map g (range_with_len (a + 1) n))
    ∙ or-right (list_any p (g a)) (list_any p (flat_map g (range_with_len (a + 1) n))) (any-flat p g (a + 1) n i (omega (arith, inside)) (ap (λ (k : ℕ). list_any p (g k)) (sym there) ∙ passes))

-- ---- lists of a form

module _ (form : ℕ → ℕ → List ℕ) where
  abbrev HasForm : List ℕ → Type 0
  HasForm sizes = (number : ℕ) × (column : ℕ) × (sizes ≡ form number column)

  all-columns : (number a n : ℕ) → AllByRecursion HasForm (map (form number) (range_with_len a n))
  all-columns number a zero = tt
  all-columns number a (suc n) = ((number, a, refl), all-columns number (a + 1) n)

  all-numbers : (columns a n : ℕ) → AllByRecursion HasForm (flat_map (λ number. map (form number) (range_with_len 0 (columns + 1))) (range_with_len a n))
  all-numbers columns a zero = tt
  all-numbers columns a (suc n) =
      All-append HasForm (map (form a) (range_with_len 0 (columns + 1))) (flat_map (λ number. map (form number) (range_with_len 0 (columns + 1))) (range_with_len (a + 1) n)) (all-columns a 0 (columns + 1)) (all-numbers columns (a + 1) n)

  eq-true : (a b : ℕ) → a ≡ b → (a == b) ≡ true
  eq-true a b e = grind (arith, nat_tests)

  true-eq : (a b : ℕ) → (a == b) ≡ true → a ≡ b
  true-eq a b e = grind (arith, nat_tests)

  pub first-formed : (most columns total number column : ℕ) → number ≤ most → column ≤ columns → sum (form number column) ≡ total → IsOfForm form total (first_of_form form most columns total)
  first-formed most columns total number column low within sums =
      let p : List ℕ → Bool = λ sizes. sum sizes == total in
      let in_row : list_any p (map (form number) (range_with_len 0 (columns + 1))) ≡ true =
      any-map p (form number) 0 (columns + 1) column (omega (arith, within)) (ap (λ (k : ℕ). p (form number k)) (first column) ∙ eq-true (sum (form number column)) total sums) in
      let some : list_any p (lists_of_form form most columns) ≡ true =
      any-flat p (λ n. map (form n) (range_with_len 0 (columns + 1))) 0 (most + 1) number (omega (arith, low))
      (ap (λ (k : ℕ). list_any p (map (form k) (range_with_len 0 (columns + 1)))) (first number) ∙ in_row) in
      let found = find-one p HasForm (lists_of_form form most columns) (all-numbers columns 0 (most + 1)) some in
      subst (IsOfForm form total) (sym (ap (λ (answer : Option (List ℕ)). unwrap_or answer []) found.is))
      (record { number = found.has.0; column = found.has.1; formed = found.has.2; sums = true-eq (sum found.one) total found.passes })
    where
      first : (k : ℕ) → 0 + k ≡ k
      first k = omega arith

-- ---- numbers that go down by at most one at a time take each value between

past : (t : ℕ → ℕ) (n total : ℕ) → ((i : ℕ) → i < n → t i ≤ t (suc i) + 1) → total ≤ t 0 → t n ≤ total → (i : ℕ) × (i ≤ n) × (t i ≡ total)
past t zero total step above below = (0, omega arith, omega (arith, above, below))
past t (suc n) total step above below = elim (cases_lt total (t n)) [
  | inl more ↦ let last = step n (omega arith) in (suc n, omega arith, omega (arith, more, last, below))
  | inr low ↦ let found = past t n total (λ i inside. step i (omega (arith, inside))) above low in let within = found.1 in (found.0, omega (arith, within), found.2)
]

past-both : (t : ℕ → ℕ → ℕ) (m n total : ℕ) → ((j i : ℕ) → j < m → i < n → t j i ≤ t j (suc i) + 1) → ((j : ℕ) → j < m → t j n ≡ t (suc j) 0) → total ≤ t 0 0 → t m 0 ≤ total
    → (j : ℕ) × (i : ℕ) × (j ≤ m) × (i ≤ n) × (t j i ≡ total)
past-both t zero n total step next above below = (0, 0, omega arith, omega arith, omega (arith, above, below))
past-both t (suc m) n total step next above below = elim (cases_lt total (t m 0)) [
  | inl more ↦
      let end = next m (omega arith) in
      let found = past (t m) n total (λ i inside. step m i (omega arith) inside) (omega (arith, more)) (omega (arith, end, below)) in
      (m, found.0, omega arith, found.1, found.2)
  | inr low ↦
      let found = past-both t m n total (λ j i h inside. step j i (omega (arith, h)) inside) (λ j h. next j (omega (arith, h))) above low in
      let within = found.2 in
      (found.0, found.1, omega (arith, within), found.3, found.4)
]

-- ---- sums over columns, of which no two have one place

abbrev sum_of : (ℕ → ℕ) → ℕ → ℕ
sum_of f n = sum (map f (range_with_len 0 n))

none-there : (p : ℕ → Bool) (a n : ℕ) → ((i : ℕ) → a ≤ i → i < a + n → p i ≡ false) → sum (map (λ i. one_if (p i)) (range_with_len a n)) ≡ 0
none-there p a zero none = refl
none-there p a (suc n) none =
    let here : one_if (p a) ≡ 0 = ap one_if (none a (omega arith) (omega arith)) in
    let rest = none-there p (a + 1) n (λ i low high. none i (omega (arith, low)) (omega (arith, high))) in
    omega (arith, here, rest, sum-cons (one_if (p a)) (map (λ i. one_if (p i)) (range_with_len (a + 1) n)))

at-most-one : (p : ℕ → Bool) (a n : ℕ) → ((i j : ℕ) → a ≤ i → i < a + n → a ≤ j → j < a + n → p i ≡ true → p j ≡ true → i ≡ j) → sum (map (λ i. one_if (p i)) (range_with_len a n)) ≤ 1
at-most-one p a zero one = omega arith
at-most-one p a (suc n) one =
    let others : ℕ = sum (map (λ i. one_if (p i)) (range_with_len (a + 1) n)) in
    let cons = sum-cons (one_if (p a)) (map (λ i. one_if (p i)) (range_with_len (a + 1) n)) in
    let rest : others ≤ 1 = at-most-one p (a + 1) n (λ i j i_low i_high j_low j_high pi pj. one i j (omega (arith, i_low)) (omega (arith, i_high)) (omega (arith, j_low)) (omega (arith, j_high)) pi pj) in
    let alone : p a ≡ true → others ≡ 0 = λ e. none-there p (a + 1) n (λ i low high. elim (p i) as (λ b. p i ≡ b → b ≡ false) [
      | true ↦ λ h. (let same : a ≡ i = one a i (omega arith) (omega arith) (omega (arith, low)) (omega (arith, high)) e h in absurd (omega (arith, same, low)))
      | false ↦ λ h. refl
    ] refl) in
    let step : (b : Bool) → p a ≡ b → sum (map (λ i. one_if (p i)) (range_with_len a (suc n))) ≤ 1 =
    λ b. elim b as (λ b. p a ≡ b → sum (map (λ i. one_if (p i)) (range_with_len a (suc n))) ≤ 1) [
      | true ↦ λ e. (let here : one_if (p a) ≡ 1 = ap one_if e in omega (arith, here, alone e, cons))
      | false ↦ λ e. (let here : one_if (p a) ≡ 0 = ap one_if e in omega (arith, here, rest, cons))
    ] in
    step (p a) refl

true-is : (a b : ℕ) → (a == b) ≡ true → a ≡ b
true-is a b e = grind (arith, nat_tests)

sum-step : (place : ℕ → ℕ) (n key : ℕ) (f g : ℕ → ℕ) → IsPlacing place n → ((i : ℕ) → i < n → f i ≤ g i + one_if (place i == key)) → sum_of f n ≤ sum_of g n + 1
sum-step place n key f g placing step =
    let mark : ℕ → ℕ = λ i. one_if (place i == key) in
    let all = map-le f (λ i. g i + mark i) n step in
    let added = sum-added g mark (λ i. g i + mark i) (range_with_len 0 n) (λ i. refl) in
    let one = at-most-one (λ i. place i == key) 0 n
    (λ i j _ i_high _ j_high pi pj. placing i j (omega (arith, i_high)) (omega (arith, j_high)) (true-is (place i) key pi ∙ sym (true-is (place j) key pj))) in
    omega (arith, all, added, one)

-- ---- each form

level-before : (level c p w l : ℕ) → p < c → size_at_level level c p w l ≡ max (min w l) (min w (level - 1))
level-before level c p w l h = grind (arith, nat_tests)

level-behind : (level c p w l : ℕ) → c ≤ p → size_at_level level c p w l ≡ max (min w l) (min w level)
level-behind level c p w l h = grind (arith, nat_tests)

order-before : (given c p w l : ℕ) → p < c → size_in_order given c p w l ≡ min w l
order-before given c p w l h = grind (arith, nat_tests)

order-at : (given c p w l : ℕ) → p ≡ c → size_in_order given c p w l ≡ w - min (w - l) given
order-at given c p w l h = grind (arith, nat_tests)

order-behind : (given c p w l : ℕ) → c < p → size_in_order given c p w l ≡ w
order-behind given c p w l h = grind (arith, nat_tests)

turns-before : (turns c p w l : ℕ) → p < c → size_in_turns turns c p w l ≡ w - min (w - l) (turns + 1)
turns-before turns c p w l h = grind (arith, nat_tests)

turns-behind : (turns c p w l : ℕ) → c ≤ p → size_in_turns turns c p w l ≡ w - min (w - l) turns
turns-behind turns c p w l h = grind (arith, nat_tests)

one-here : (p key : ℕ) → p ≡ key → one_if (p == key) ≡ 1
one-here p key e = let test : (p == key) ≡ true = grind (arith, nat_tests) in ap one_if test

level-step : (level i p w l : ℕ) → size_at_level level i p w l ≤ size_at_level level (suc i) p w l + one_if (p == i)
level-step level i p w l = elim (cases_order p i) [
  | inl at ↦ omega (arith, one-here p i at, level-behind level i p w l (omega (arith, at)), level-before level (suc i) p w l (omega (arith, at)))
  | inr apart ↦ elim apart [
    | inl low ↦ omega (arith, level-before level i p w l low, level-before level (suc i) p w l (omega (arith, low)))
    | inr high ↦ omega (arith, level-behind level i p w l (omega (arith, high)), level-behind level (suc i) p w l (omega (arith, high)))
  ]
]

turns-step : (turns i p w l : ℕ) → size_in_turns turns i p w l ≤ size_in_turns turns (suc i) p w l + one_if (p == i)
turns-step turns i p w l = elim (cases_order p i) [
  | inl at ↦ omega (arith, one-here p i at, turns-behind turns i p w l (omega (arith, at)), turns-before turns (suc i) p w l (omega (arith, at)))
  | inr apart ↦ elim apart [
    | inl low ↦ omega (arith, turns-before turns i p w l low, turns-before turns (suc i) p w l (omega (arith, low)))
    | inr high ↦ omega (arith, turns-behind turns i p w l (omega (arith, high)), turns-behind turns (suc i) p w l (omega (arith, high)))
  ]
]

order-step : (given c p w l : ℕ) → size_in_order given c p w l ≤ size_in_order (suc given) c p w l + one_if (p == c)
order-step given c p w l = elim (cases_order p c) [
  | inl at ↦ omega (arith, one-here p c at, order-at given c p w l at, order-at (suc given) c p w l at)
  | inr apart ↦ elim apart [
    | inl low ↦ omega (arith, order-before given c p w l low, order-before (suc given) c p w l low)
    | inr high ↦ omega (arith, order-behind given c p w l high, order-behind (suc given) c p w l high)
  ]
]

-- ---- one of each form has the sum

module _ (place : ℕ → ℕ) (least widths : List ℕ) (by : ℕ) (placing : IsPlacing place (length widths)) (inside : (i : ℕ) → i < length widths → place i < length widths) where
  abbrev n : ℕ
  n = length widths

  abbrev most : ℕ
  most = sum widths

  abbrev w : ℕ → ℕ
  w i = get_or widths i 0

  abbrev l : ℕ → ℕ
  l i = get_or least i 0

  low : (i : ℕ) → i < n → w i ≤ most
  low i h = get_or-le-sum_by (λ (x : ℕ). x) widths i 0 h

  all-of : sum_of w n ≡ most
  all-of = from_columns widths 0 w (λ i. let z : 0 + i ≡ i = omega arith in ap w z) where
    from_columns : (xs : List ℕ) (a : ℕ) (f : ℕ → ℕ) → ((i : ℕ) → f (a + i) ≡ get_or xs i 0) → sum (map f (range_with_len a (length xs))) ≡ sum xs
    from_columns [] a f same = refl
    from_columns (x ∷ xs) a f same =
        let here : f a ≡ x = (let z : a + 0 ≡ a = omega arith in ap f (sym z) ∙ same 0) in
        let rest = from_columns xs (a + 1) f (λ i. let s : (a + 1) + i ≡ a + suc i = omega arith in ap f s ∙ same (suc i)) in
        omega (arith, here, rest, sum-cons (f a) (map f (range_with_len (a + 1) (length xs))), sum-cons x xs)

  total-most : shrunk_sum least widths by ≤ most
  total-most =
      let below : sum (floors least widths) ≤ sum_of w n = map-le (floor_of least widths) w n (λ i h. omega arith) in
      omega (arith, below, all-of)

  abbrev total : ℕ
  total = shrunk_sum least widths by

  abbrev FormReaches : (ℕ → ℕ → List ℕ) → Type 0
  FormReaches form = (number : ℕ) × (column : ℕ) × (number ≤ most) × (column ≤ n) × (sum (form number column) ≡ total)

  -- from all widths down to the floors
  above : (f : ℕ → ℕ) → ((i : ℕ) → i < n → f i ≡ w i) → total ≤ sum_of f n
  above f same = let is : sum_of f n ≡ sum_of w n = ap sum (map-equal f w n same) in omega (arith, is, all-of, total-most)

  below : (f : ℕ → ℕ) → ((i : ℕ) → i < n → f i ≡ min (w i) (l i)) → sum_of f n ≤ total
  below f same = let is : sum_of f n ≡ sum (floors least widths) = ap sum (map-equal f (floor_of least widths) n same) in omega (arith, is)

  level-reaches : FormReaches (shrunk_to_level place least widths)
  level-reaches =
      let at : ℕ → ℕ → ℕ → ℕ = λ level c i. size_at_level level c (place i) (w i) (l i) in
      let t : ℕ → ℕ → ℕ = λ j i. sum_of (at (most - j) i) n in
      let next : (j : ℕ) → j < most → t j n ≡ t (suc j) 0 =
      λ j h. ap sum (map-equal (at (most - j) n) (at (most - suc j) 0) n
      (λ k inside_k. let less : most - suc j ≡ most - j - 1 = omega arith in
      level-before (most - j) n (place k) (w k) (l k) (inside k inside_k) ∙ ap (λ (v : ℕ). max (min (w k) (l k)) (min (w k) v)) (sym less) ∙ sym (level-behind (most - suc j) 0 (place k) (w k) (l k) (omega arith)))) in
      let found = past-both t most n total
      (λ j i h inside_i. sum-step place n i (at (most - j) i) (at (most - j) (suc i)) placing (λ k inside_k. level-step (most - j) i (place k) (w k) (l k)))
      next
      (above (at (most - 0) 0) (λ k inside_k. let high = low k inside_k in omega (arith, high, level-behind (most - 0) 0 (place k) (w k) (l k) (omega arith))))
      (below (at (most - most) 0) (λ k inside_k. omega (arith, level-behind (most - most) 0 (place k) (w k) (l k) (omega arith)))) in
      (most - found.0, found.1, omega arith, found.3, found.4)

  turns-reach : FormReaches (shrunk_in_turns place least widths)
  turns-reach =
      let at : ℕ → ℕ → ℕ → ℕ = λ turns c i. size_in_turns turns c (place i) (w i) (l i) in
      let t : ℕ → ℕ → ℕ = λ j i. sum_of (at j i) n in
      let next : (j : ℕ) → j < most → t j n ≡ t (suc j) 0 =
      λ j h. ap sum (map-equal (at j n) (at (suc j) 0) n
      (λ k inside_k. let more : j + 1 ≡ suc j = omega arith in
      turns-before j n (place k) (w k) (l k) (inside k inside_k) ∙ ap (λ (v : ℕ). w k - min (w k - l k) v) more ∙ sym (turns-behind (suc j) 0 (place k) (w k) (l k) (omega arith)))) in
      past-both t most n total
      (λ j i h inside_i. sum-step place n i (at j i) (at j (suc i)) placing (λ k inside_k. turns-step j i (place k) (w k) (l k)))
      next
      (above (at 0 0) (λ k inside_k. omega (arith, turns-behind 0 0 (place k) (w k) (l k) (omega arith))))
      (below (at most 0) (λ k inside_k. let high = low k inside_k in omega (arith, high, turns-behind most 0 (place k) (w k) (l k) (omega arith))))

  order-next : (j k : ℕ) → k < n → size_in_order most j (place k) (w k) (l k) ≡ size_in_order 0 (suc j) (place k) (w k) (l k)
  order-next j k inside_k =
      let high = low k inside_k in
      elim (cases_order (place k) j) [
        | inl at ↦ omega (arith, high, order-at most j (place k) (w k) (l k) at, order-before 0 (suc j) (place k) (w k) (l k) (omega (arith, at)))
        | inr apart ↦ elim apart [
          | inl early ↦ omega (arith, order-before most j (place k) (w k) (l k) early, order-before 0 (suc j) (place k) (w k) (l k) (omega (arith, early)))
          | inr late ↦ elim (cases_order (place k) (suc j)) [
            | inl at ↦ omega (arith, order-behind most j (place k) (w k) (l k) late, order-at 0 (suc j) (place k) (w k) (l k) at)
            | inr others ↦ elim others [
              | inl early ↦ absurd (omega (arith, early, late))
              | inr later ↦ omega (arith, order-behind most j (place k) (w k) (l k) late, order-behind 0 (suc j) (place k) (w k) (l k) later)
            ]
          ]
        ]
      ]

  order-first : (k : ℕ) → size_in_order 0 0 (place k) (w k) (l k) ≡ w k
  order-first k = elim (cases_order (place k) 0) [
    | inl at ↦ omega (arith, order-at 0 0 (place k) (w k) (l k) at)
    | inr apart ↦ elim apart [ inl early ↦ absurd (omega (arith, early)) | inr late ↦ order-behind 0 0 (place k) (w k) (l k) late ]
  ]

  order-reaches : FormReaches (shrunk_in_order place least widths)
  order-reaches =
      let at : ℕ → ℕ → ℕ → ℕ = λ given c i. size_in_order given c (place i) (w i) (l i) in
      let t : ℕ → ℕ → ℕ = λ j i. sum_of (at i j) n in
      let found = past-both t n most total
      (λ j i h inside_i. sum-step place n j (at i j) (at (suc i) j) placing (λ k inside_k. order-step i j (place k) (w k) (l k)))
      (λ j h. ap sum (map-equal (at most j) (at 0 (suc j)) n (λ k inside_k. order-next j k inside_k)))
      (above (at 0 0) (λ k inside_k. order-first k))
      (below (at 0 n) (λ k inside_k. order-before 0 n (place k) (w k) (l k) (inside k inside_k))) in
      (found.1, found.0, found.3, found.2, found.4)

-- ---- the places of columns are below their count

ones : (a n : ℕ) → sum (map (λ i. 1) (range_with_len a n)) ≡ n
ones a zero = refl
ones a (suc n) = let rest = ones (a + 1) n in omega (arith, rest, sum-cons 1 (map (λ i. 1) (range_with_len (a + 1) n)))

fewer : (f : ℕ → ℕ) (n i : ℕ) → i < n → ((k : ℕ) → f k ≤ 1) → f i ≡ 0 → sum_of f n < n
fewer f n i inside each none =
    let one : ℕ → ℕ = λ _. 1 in
    let le = map-le f one n (λ k _. each k) in
    elim (cases_lt (sum_of f n) n) [
      | inl less ↦ less
      | inr not_less ↦
          let lists : map f (range_with_len 0 n) ≡ map one (range_with_len 0 n) = map-same f one n (λ k _. each k) (omega (arith, not_less, le, ones 0 n)) in
          let same : f i ≡ 1 = sym (at_column f n i inside) ∙ ap (λ (xs : List ℕ). get_or xs i 0) lists ∙ at_column one n i inside in
          absurd (omega (arith, same, none))
    ]

one_if-low : (b : Bool) → one_if b ≤ 1
one_if-low true = omega arith
one_if-low false = omega arith

width-inside : (right : Bool) (widths : List ℕ) (i : ℕ) → i < length widths → by_width right widths i < length widths
width-inside right widths i inside =
    let f : ℕ → ℕ = λ other. one_if (is_narrower right widths other i) in
    let not : is_narrower right widths i i ≡ false =
    elim (is_narrower right widths i i) as (λ b. is_narrower right widths i i ≡ b → b ≡ false) [
      | true ↦ λ h. absurd (elim (true-narrower right widths i i h) [ inl less ↦ omega arith | inr nearer ↦ omega arith ])
      | false ↦ λ h. refl
    ] refl in
    let is : by_width right widths i ≡ sum_of f (length widths) = sym (sum-map f (range_with_len 0 (length widths))) in
    let less = fewer f (length widths) i inside (λ k. one_if-low (is_narrower right widths k i)) (ap one_if not) in
    omega (arith, is, less)

side-inside : (right : Bool) (n i : ℕ) → i < n → from_side right n i < n
side-inside true n i inside = omega arith
side-inside false n i inside = inside

column-inside : (n i : ℕ) → i < n → from_column 0 n i < n
column-inside n i inside = let is : from_column 0 n i ≡ i = grind (arith, nat_tests) in omega (arith, is, inside)

-- ---- the list

reached : (form : ℕ → ℕ → List ℕ) (most columns total : ℕ) → (number : ℕ) × (column : ℕ) × (number ≤ most) × (column ≤ columns) × (sum (form number column) ≡ total) → IsOfForm form total (first_of_form form most columns total)
reached form most columns total found = first-formed form most columns total found.0 found.1 found.2 found.3 found.4

pub shrunk_list-meets : (priority : Choice) (least : List ℕ) (by : ℕ) (widths : List ℕ) → IsShrunkByChoice priority least by widths (shrunk_list priority least by widths)
unfolding shrunk_list
shrunk_list-meets InTurns least by widths =
    reached (form_of InTurns least widths) (sum widths) (length widths) (shrunk_sum least widths by)
    (turns-reach (from_column 0 (length widths)) least widths by (column-placing 0 (length widths) (omega arith)) (column-inside (length widths)))
shrunk_list-meets MinLeft least by widths =
    reached (form_of MinLeft least widths) (sum widths) (length widths) (shrunk_sum least widths by) (order-reaches (by_width false widths) least widths by (width-placing false widths) (width-inside false widths))
shrunk_list-meets MinRight least by widths =
    reached (form_of MinRight least widths) (sum widths) (length widths) (shrunk_sum least widths by) (order-reaches (by_width true widths) least widths by (width-placing true widths) (width-inside true widths))
shrunk_list-meets MaxLeft least by widths =
    reached (form_of MaxLeft least widths) (sum widths) (length widths) (shrunk_sum least widths by)
    (level-reaches (from_side false (length widths)) least widths by (side-placing false (length widths)) (side-inside false (length widths)))
shrunk_list-meets MaxRight least by widths =
    reached (form_of MaxRight least widths) (sum widths) (length widths) (shrunk_sum least widths by)
    (level-reaches (from_side true (length widths)) least widths by (side-placing true (length widths)) (side-inside true (length widths)))
shrunk_list-meets Left least by widths =
    reached (form_of Left least widths) (sum widths) (length widths) (shrunk_sum least widths by)
    (order-reaches (from_side false (length widths)) least widths by (side-placing false (length widths)) (side-inside false (length widths)))
shrunk_list-meets Right least by widths =
    reached (form_of Right least widths) (sum widths) (length widths) (shrunk_sum least widths by)
    (order-reaches (from_side true (length widths)) least widths by (side-placing true (length widths)) (side-inside true (length widths)))

pub shrunk_list-one : (priority : Choice) (least : List ℕ) (by : ℕ) (widths sizes : List ℕ) → IsShrunkByChoice priority least by widths sizes → sizes ≡ shrunk_list priority least by widths
shrunk_list-one InTurns least by widths sizes is =
    turns_one (from_column 0 (length widths)) least widths (shrunk_sum least widths by) sizes (shrunk_list InTurns least by widths) is (shrunk_list-meets InTurns least by widths)
shrunk_list-one MinLeft least by widths sizes is =
    order_one (by_width false widths) least widths (shrunk_sum least widths by) sizes (shrunk_list MinLeft least by widths) is (shrunk_list-meets MinLeft least by widths)
shrunk_list-one MinRight least by widths sizes is =
    order_one (by_width true widths) least widths (shrunk_sum least widths by) sizes (shrunk_list MinRight least by widths) is (shrunk_list-meets MinRight least by widths)
shrunk_list-one MaxLeft least by widths sizes is =
    level_one (from_side false (length widths)) least widths (shrunk_sum least widths by) sizes (shrunk_list MaxLeft least by widths) is (shrunk_list-meets MaxLeft least by widths)
shrunk_list-one MaxRight least by widths sizes is =
    level_one (from_side true (length widths)) least widths (shrunk_sum least widths by) sizes (shrunk_list MaxRight least by widths) is (shrunk_list-meets MaxRight least by widths)
shrunk_list-one Left least by widths sizes is =
    order_one (from_side false (length widths)) least widths (shrunk_sum least widths by) sizes (shrunk_list Left least by widths) is (shrunk_list-meets Left least by widths)
shrunk_list-one Right least by widths sizes is =
    order_one (from_side true (length widths)) least widths (shrunk_sum least widths by) sizes (shrunk_list Right least by widths) is (shrunk_list-meets Right least by widths)
