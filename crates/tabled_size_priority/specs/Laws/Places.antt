-- The places of columns: no two columns have one place, and of two columns the narrower one comes first in order of width.
use Rattle.std.proofs.Common.{◌≡◌, ℕ, ◌<◌, ◌≤◌, List, length, map, get_or, sum, refl, sym, ◌∙◌, ap, arith, ◌≢◌, inl, inr, true, false, Bool, cond}
use Rattle.std.specs.Prelude.{◌⊎◌, nat_lt, ◌==◌, ◌&&◌, ◌||◌}
use Rattle.std.specs.List.{range_with_len}
use Rattle.std.proofs.lemmas.Bool.{cases_lt, cases_order}
use Rattle.std.proofs.lemmas.Bool.Decides.{nat_tests}
use Rattle.std.proofs.lemmas.List.Sums.{sum-map}
use Rattle.tabled_size_priority.specs.LevelRules.Columns.{from_side, is_narrower, by_width}
pub use Rattle.tabled_size_priority.specs.LevelRules.Steps.{IsPlacing, column-placing, from_column-after, from_column-before, side-placing}
use Rattle.tabled_size_priority.specs.Laws.Lists.{map-same, map-le, at_column}

-- ---- in order of width

-- narrower, or as wide and nearer to the side
abbrev pub GoesFirst : Bool → List ℕ → ℕ → ℕ → Type 0
GoesFirst right widths other column =
    (get_or widths other 0 < get_or widths column 0)
    ⊎ ((get_or widths other 0 ≡ get_or widths column 0) × (from_side right (length widths) other < from_side right (length widths) column))

test-or : (a b p q : ℕ) → (a < b) ⊎ ((a ≡ b) × (p < q)) → (nat_lt a b || a == b && nat_lt p q) ≡ true
test-or a b p q h = grind (arith, nat_tests)

or-test : (a b p q : ℕ) → (nat_lt a b || a == b && nat_lt p q) ≡ true → (a < b) ⊎ ((a ≡ b) × (p < q))
or-test a b p q h = elim (cases_lt a b) [ inl less ↦ inl less | inr not_less ↦ inr (grind (arith, nat_tests), grind (arith, nat_tests)) ]

pub narrower-true : (right : Bool) (widths : List ℕ) (other column : ℕ) → GoesFirst right widths other column → is_narrower right widths other column ≡ true
narrower-true right widths other column h = test-or _ _ _ _ h

pub true-narrower : (right : Bool) (widths : List ℕ) (other column : ℕ) → is_narrower right widths other column ≡ true → GoesFirst right widths other column
true-narrower right widths other column h = or-test _ _ _ _ h

GoesFirst-trans : (right : Bool) (widths : List ℕ) (i j k : ℕ) → GoesFirst right widths i j → GoesFirst right widths j k → GoesFirst right widths i k
GoesFirst-trans right widths i j k (inl narrower) (inl narrower_still) = inl (omega arith)
GoesFirst-trans right widths i j k (inl narrower) (inr nearer) = inl (omega arith)
GoesFirst-trans right widths i j k (inr nearer) (inl narrower) = inl (omega arith)
GoesFirst-trans right widths i j k (inr nearer) (inr nearer_still) = inr (omega arith, omega arith)

abbrev one_if : Bool → ℕ
one_if test = cond test 1 0

one_if-le : (p q : Bool) → (p ≡ true → q ≡ true) → one_if p ≤ one_if q
one_if-le true q h = let e : q ≡ true = h refl in rw e (omega arith)
one_if-le false q h = omega arith

by_width-sum : (right : Bool) (widths : List ℕ) (column : ℕ) → by_width right widths column ≡ sum (map (λ other. one_if (is_narrower right widths other column)) (range_with_len 0 (length widths)))
by_width-sum right widths column = sym (sum-map (λ other. one_if (is_narrower right widths other column)) (range_with_len 0 (length widths)))

-- what goes first has the smaller place
pub by_width-less : (right : Bool) (widths : List ℕ) (i j : ℕ) → i < length widths → GoesFirst right widths i j → by_width right widths i < by_width right widths j
by_width-less right widths i j inside first =
    let f : ℕ → ℕ = λ other. one_if (is_narrower right widths other i) in
    let g : ℕ → ℕ = λ other. one_if (is_narrower right widths other j) in
    let n : ℕ = length widths in
    let le : (other : ℕ) → other < n → f other ≤ g other =
    λ other below. one_if-le (is_narrower right widths other i) (is_narrower right widths other j)
    (λ h. narrower-true right widths other j (GoesFirst-trans right widths other i j (true-narrower right widths other i h) first)) in
    let sums : sum (map f (range_with_len 0 n)) ≤ sum (map g (range_with_len 0 n)) = map-le f g n le in
    let f_sum : by_width right widths i ≡ sum (map f (range_with_len 0 n)) = by_width-sum right widths i in
    let g_sum : by_width right widths j ≡ sum (map g (range_with_len 0 n)) = by_width-sum right widths j in
    elim (cases_lt (by_width right widths i) (by_width right widths j)) [
      | inl less ↦ less
      | inr not_less ↦
          let lists : map f (range_with_len 0 n) ≡ map g (range_with_len 0 n) = map-same f g n le (omega arith) in
          let at_f : get_or (map f (range_with_len 0 n)) i 0 ≡ f i = at_column f n i inside in
          let at_g : get_or (map g (range_with_len 0 n)) i 0 ≡ g i = at_column g n i inside in
          let same : f i ≡ g i = sym at_f ∙ ap (λ (xs : List ℕ). get_or xs i 0) lists ∙ at_g in
          let above : g i ≡ 1 = ap one_if (narrower-true right widths i j first) in
          absurd (elim (is_narrower right widths i i) as (λ b. is_narrower right widths i i ≡ b → ⊥) [
            | true ↦ λ h. elim (true-narrower right widths i i h) [ inl less ↦ omega arith | inr nearer ↦ omega arith ]
            | false ↦ λ h. let zero_there : f i ≡ 0 = ap one_if h in omega arith
          ] refl)
    ]

-- of two columns one goes first
pub goes_first : (right : Bool) (widths : List ℕ) (i j : ℕ) → i < length widths → j < length widths → i ≢ j → GoesFirst right widths i j ⊎ GoesFirst right widths j i
goes_first right widths i j i_inside j_inside other =
    elim (cases_order (get_or widths i 0) (get_or widths j 0)) [
      | inl same ↦ elim (cases_order (from_side right (length widths) i) (from_side right (length widths) j)) [
        | inl same_place ↦ absurd (other (side-placing right (length widths) i j i_inside j_inside same_place))
        | inr apart ↦ elim apart [ inl less ↦ inl (inr (same, less)) | inr more ↦ inr (inr (sym same, more)) ]
      ]
      | inr apart ↦ elim apart [ inl less ↦ inl (inl less) | inr more ↦ inr (inl more) ]
    ]

-- which of two columns comes before the other by its place goes first
pub by_width-first : (right : Bool) (widths : List ℕ) (i j : ℕ) → i < length widths → j < length widths → by_width right widths i < by_width right widths j → GoesFirst right widths i j
by_width-first right widths i j i_inside j_inside before =
    let other : i ≢ j = λ same. let e : by_width right widths i ≡ by_width right widths j = ap (by_width right widths) same in omega arith in
    elim (goes_first right widths i j i_inside j_inside other) [
      | inl first ↦ first
      | inr after ↦ let less : by_width right widths j < by_width right widths i = by_width-less right widths j i j_inside after in absurd (omega arith)
    ]

pub width-placing : (right : Bool) (widths : List ℕ) → IsPlacing (by_width right widths) (length widths)
width-placing right widths i j i_inside j_inside same =
    elim (cases_order i j) [
      | inl is ↦ is
      | inr apart ↦
          let other : i ≢ j = λ e. elim apart [ inl less ↦ omega arith | inr more ↦ omega arith ] in
          absurd (elim (goes_first right widths i j i_inside j_inside other) [
            | inl first ↦ let less : by_width right widths i < by_width right widths j = by_width-less right widths i j i_inside first in omega arith
            | inr after ↦ let less : by_width right widths j < by_width right widths i = by_width-less right widths j i j_inside after in omega arith
          ])
    ]
