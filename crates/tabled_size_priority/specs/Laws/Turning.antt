-- Lists whose columns give, or get, in turns.
use Rattle.std.proofs.Common.{◌≡◌, ℕ, ◌+◌, ◌-◌, ◌<◌, ◌≤◌, List, length, get_or, set, refl, sym, ◌∙◌, ap, subst, arith, inl, inr}
use Rattle.std.specs.Prelude.{◌⊎◌, nat_lt, Some, if◌then◌else◌}
use Rattle.std.proofs.lemmas.Bool.{cases_lt, cases_order}
use Rattle.std.proofs.lemmas.Bool.Decides.{nat_tests}
use Rattle.tabled_size_priority.specs.LevelRules.Columns.{from_column}
use Rattle.tabled_size_priority.specs.Peaking.{IsFirstAbove, InPlace}
use Rattle.tabled_size_priority.specs.Peaks.{start_of, turn_peaks}
use Rattle.tabled_size_priority.specs.Laws.Lists.{set_cases}
use Rattle.tabled_size_priority.specs.Laws.Places.{IsPlacing, from_column-after, from_column-before, column-placing}

-- ---- rounds

pub start_inside : (next count : ℕ) → 0 < count → start_of next count < count
start_inside next count some = grind (arith, nat_tests)

turn_inside : (start count i : ℕ) → start < count → i < count → from_column start count i < count
turn_inside start count i start_in inside = elim (cases_lt i start) [
  | inl before ↦ let is : from_column start count i ≡ i + count - start = from_column-before start count i before in omega arith
  | inr after ↦ let is : from_column start count i ≡ i - start = from_column-after start count i after in omega arith
]

-- where a round goes on after column p, the columns after p in the first round come first, and then those up to p
abbrev turned : ℕ → ℕ → ℕ → ℕ → ℕ
turned start count p i = from_column (start_of (p + 1) count) count i

start-next : (p count : ℕ) → p + 1 < count → start_of (p + 1) count ≡ p + 1
start-next p count h = grind (arith, nat_tests)

start-over : (p count : ℕ) → count ≤ p + 1 → start_of (p + 1) count ≡ 0
start-over p count h = grind (arith, nat_tests)

-- the place of a column in the round from p on, by where the columns are
turned-is : (p count i : ℕ) → p < count → i < count → ((p < i) × (from_column (start_of (p + 1) count) count i ≡ i - (p + 1))) ⊎ ((i ≤ p) × (from_column (start_of (p + 1) count) count i ≡ i + count - (p + 1)))
turned-is p count i p_in i_in = elim (cases_lt (p + 1) count) [
  | inl more ↦
      let same : start_of (p + 1) count ≡ p + 1 = start-next p count more in
      elim (cases_lt p i) [
        | inl behind ↦ inl (behind, ap (λ (s : ℕ). from_column s count i) same ∙ from_column-after (p + 1) count i (omega arith))
        | inr before ↦ inr (before, ap (λ (s : ℕ). from_column s count i) same ∙ from_column-before (p + 1) count i (omega arith))
      ]
  | inr last ↦
      let same : start_of (p + 1) count ≡ 0 = start-over p count last in
      let is : from_column 0 count i ≡ i - 0 = from_column-after 0 count i (omega arith) in
      let whole : from_column (start_of (p + 1) count) count i ≡ from_column 0 count i = ap (λ (s : ℕ). from_column s count i) same in
      inr (omega arith, omega arith)
]

turn-is : (start count i : ℕ) → ((i < start) × (from_column start count i ≡ i + count - start)) ⊎ ((start ≤ i) × (from_column start count i ≡ i - start))
turn-is start count i = elim (cases_lt i start) [ inl before ↦ inl (before, from_column-before start count i before) | inr after ↦ inr (after, from_column-after start count i after) ]

-- numbers alone: t is a turn, u the place from p on
behind-number : (start count p i tp ti u : ℕ) → start < count → p < count → i < count → tp < ti
    → ((p < start) × (tp ≡ p + count - start)) ⊎ ((start ≤ p) × (tp ≡ p - start)) → ((i < start) × (ti ≡ i + count - start)) ⊎ ((start ≤ i) × (ti ≡ i - start))
    → ((p < i) × (u ≡ i - (p + 1))) ⊎ ((i ≤ p) × (u ≡ i + count - (p + 1))) → u ≡ ti - (tp + 1)
behind-number start count p i tp ti u start_in p_in i_in later p_is i_is u_is = grind arith

before-number : (start count p i tp ti u : ℕ) → start < count → p < count → i < count → ti ≤ tp
    → ((p < start) × (tp ≡ p + count - start)) ⊎ ((start ≤ p) × (tp ≡ p - start)) → ((i < start) × (ti ≡ i + count - start)) ⊎ ((start ≤ i) × (ti ≡ i - start))
    → ((p < i) × (u ≡ i - (p + 1))) ⊎ ((i ≤ p) × (u ≡ i + count - (p + 1))) → u ≡ ti + count - (tp + 1)
before-number start count p i tp ti u start_in p_in i_in earlier p_is i_is u_is = grind arith

turned-behind : (start count p i : ℕ) → start < count → p < count → i < count → from_column start count p < from_column start count i
    → turned start count p i ≡ from_column start count i - (from_column start count p + 1)
turned-behind start count p i start_in p_in i_in later = behind-number start count p i (from_column start count p) (from_column start count i) (turned start count p i) start_in p_in i_in later (turn-is start count p) (turn-is start count i) (turned-is p count i p_in i_in)

turned-before : (start count p i : ℕ) → start < count → p < count → i < count → from_column start count i ≤ from_column start count p
    → turned start count p i ≡ from_column start count i + count - (from_column start count p + 1)
turned-before start count p i start_in p_in i_in earlier = before-number start count p i (from_column start count p) (from_column start count i) (turned start count p i) start_in p_in i_in earlier (turn-is start count p) (turn-is start count i) (turned-is p count i p_in i_in)

-- ---- what a turn does

-- how often a column was named, by its place in the round: once more before place c
abbrev asked : ℕ → ℕ → ℕ → ℕ
asked k c place = if nat_lt place c then k + 1 else k

asked-before : (k c place : ℕ) → place < c → asked k c place ≡ k + 1
asked-before k c place h = grind (arith, nat_tests)

asked-behind : (k c place : ℕ) → c ≤ place → asked k c place ≡ k
asked-behind k c place h = grind (arith, nat_tests)

-- a column's size after it was named t times, and what an answer makes of a size
pub record IsTurning (least widths : List ℕ) (at : ℕ → ℕ → ℕ) (change : ℕ → ℕ) : Type 0 where
  pub begins : (i : ℕ) → i < length widths → get_or widths i 0 ≡ at i 0
  pub rests : (i t : ℕ) → at i t ≤ get_or least i 0 → at i (t + 1) ≡ at i t
  pub gives : (i t : ℕ) → get_or least i 0 < at i t → change (at i t) ≡ at i (t + 1)

-- every column was named as often as its turn says
abbrev pub AreAsked : ℕ → (ℕ → ℕ) → (ℕ → ℕ → ℕ) → ℕ → ℕ → List ℕ → Type 0
AreAsked n turn at k c sizes = (i : ℕ) → i < n → get_or sizes i 0 ≡ at i (asked k c (turn i))

-- a later column of the round is named
same_round : (least widths : List ℕ) (at : ℕ → ℕ → ℕ) (change : ℕ → ℕ) (turn : ℕ → ℕ) (k c : ℕ) (sizes : List ℕ) (q : ℕ) → IsTurning least widths at change → IsPlacing turn (length widths) → AreAsked (length widths) turn at k c sizes
    → q < length widths → length sizes ≡ length widths → c ≤ turn q → get_or least q 0 < get_or sizes q 0 → ((i : ℕ) → i < length widths → c ≤ turn i → turn i < turn q → get_or sizes i 0 ≤ get_or least i 0)
    → (get_or least q 0 < at q k) × AreAsked (length widths) turn at k (turn q + 1) (set sizes q (change (get_or sizes q 0)))
same_round least widths at change turn k c sizes q turning placing are inside size later above skipped =
    let is : get_or sizes q 0 ≡ at q k = are q inside ∙ ap (at q) (asked-behind k c (turn q) later) in
    let high : get_or least q 0 < at q k = let P : ℕ → Type 0 = λ (v : ℕ). get_or least q 0 < v in subst P is above in
    let New : ℕ → ℕ → Type 0 = λ (i : ℕ) (v : ℕ). i < length widths → v ≡ at i (asked k (turn q + 1) (turn i)) in (
      high,
      set_cases New sizes q (change (get_or sizes q 0)) (omega arith)
          (λ below. ap change is ∙ turning.gives q k high ∙ sym (ap (at q) (asked-before k (turn q + 1) (turn q) (omega arith))))
          (λ i other below. elim (cases_order (turn i) (turn q)) [
            | inl same ↦ absurd (other (placing i q below inside same))
            | inr apart ↦ elim apart [
              | inl before ↦ elim (cases_lt (turn i) c) [
                | inl done ↦ are i below ∙ ap (at i) (asked-before k c (turn i) done ∙ sym (asked-before k (turn q + 1) (turn i) (omega arith)))
                | inr passed ↦
                    let was : get_or sizes i 0 ≡ at i k = are i below ∙ ap (at i) (asked-behind k c (turn i) passed) in
                    let low : get_or sizes i 0 ≤ get_or least i 0 = skipped i below passed before in
                    was ∙ sym (turning.rests i k (omega arith)) ∙ sym (ap (at i) (asked-before k (turn q + 1) (turn i) (omega arith)))
              ]
              | inr behind ↦ are i below ∙ ap (at i) (asked-behind k c (turn i) (omega arith) ∙ sym (asked-behind k (turn q + 1) (turn i) (omega arith)))
            ]
          ]),
    )

-- the round is over, and a column of the next one is named
next_round : (least widths : List ℕ) (at : ℕ → ℕ → ℕ) (change : ℕ → ℕ) (turn : ℕ → ℕ) (k c : ℕ) (sizes : List ℕ) (q : ℕ) → IsTurning least widths at change → IsPlacing turn (length widths) → AreAsked (length widths) turn at k c sizes
    → q < length widths → length sizes ≡ length widths → turn q < c → get_or least q 0 < get_or sizes q 0 → ((i : ℕ) → i < length widths → (c ≤ turn i) ⊎ (turn i < turn q) → get_or sizes i 0 ≤ get_or least i 0)
    → (get_or least q 0 < at q (k + 1)) × AreAsked (length widths) turn at (k + 1) (turn q + 1) (set sizes q (change (get_or sizes q 0)))
next_round least widths at change turn k c sizes q turning placing are inside size earlier above skipped =
    let is : get_or sizes q 0 ≡ at q (k + 1) = are q inside ∙ ap (at q) (asked-before k c (turn q) earlier) in
    let high : get_or least q 0 < at q (k + 1) = let P : ℕ → Type 0 = λ (v : ℕ). get_or least q 0 < v in subst P is above in
    let New : ℕ → ℕ → Type 0 = λ (i : ℕ) (v : ℕ). i < length widths → v ≡ at i (asked (k + 1) (turn q + 1) (turn i)) in (
      high,
      set_cases New sizes q (change (get_or sizes q 0)) (omega arith)
          (λ below. ap change is ∙ turning.gives q (k + 1) high ∙ sym (ap (at q) (asked-before (k + 1) (turn q + 1) (turn q) (omega arith))))
          (λ i other below. elim (cases_order (turn i) (turn q)) [
            | inl same ↦ absurd (other (placing i q below inside same))
            | inr apart ↦ elim apart [
              | inl before ↦
                  let was : get_or sizes i 0 ≡ at i (k + 1) = are i below ∙ ap (at i) (asked-before k c (turn i) (omega arith)) in
                  let low : get_or sizes i 0 ≤ get_or least i 0 = skipped i below (inr before) in
                  was ∙ sym (turning.rests i (k + 1) (omega arith)) ∙ sym (ap (at i) (asked-before (k + 1) (turn q + 1) (turn i) (omega arith)))
              | inr behind ↦ elim (cases_lt (turn i) c) [
                | inl done ↦ are i below ∙ ap (at i) (asked-before k c (turn i) done ∙ sym (asked-behind (k + 1) (turn q + 1) (turn i) (omega arith)))
                | inr passed ↦
                    let was : get_or sizes i 0 ≡ at i k = are i below ∙ ap (at i) (asked-behind k c (turn i) passed) in
                    let low : get_or sizes i 0 ≤ get_or least i 0 = skipped i below (inl passed) in
                    was ∙ sym (turning.rests i k (omega arith)) ∙ sym (ap (at i) (asked-behind (k + 1) (turn q + 1) (turn i) (omega arith)))
              ]
            ]
          ]),
    )

-- ---- a run

-- the column named last, and how often it had been named before
pub record IsTurned (least widths : List ℕ) (at : ℕ → ℕ → ℕ) (turn : ℕ → ℕ) (next : ℕ) (sizes : List ℕ) : Type 0 where
  pub named : ℕ
  pub turns : ℕ
  pub inside : named < length widths
  pub goes_on : next ≡ named + 1
  pub above : get_or least named 0 < at named turns
  pub are : AreAsked (length widths) turn at turns (turn named + 1) sizes

-- nothing was named yet, or something was
abbrev pub KeepsTurns : List ℕ → List ℕ → (ℕ → ℕ → ℕ) → (ℕ → ℕ) → ℕ → ℕ → List ℕ → Type 0
KeepsTurns least widths at turn before next sizes = ((next ≡ before) × (sizes ≡ widths)) ⊎ IsTurned least widths at turn next sizes

first-turn : (least widths : List ℕ) (at : ℕ → ℕ → ℕ) (change : ℕ → ℕ) (start : ℕ) (sizes : List ℕ) (q : ℕ) → IsTurning least widths at change → start ≤ length widths → sizes ≡ widths
    → IsFirstAbove (InPlace (from_column start (length widths))) least sizes (length widths) q → length sizes ≡ length widths
    → IsTurned least widths at (from_column start (length widths)) (q + 1) (set sizes q (change (get_or sizes q 0)))
first-turn least widths at change start sizes q turning start_in same first size =
    let n : ℕ = length widths in
    let turn : ℕ → ℕ = from_column start n in
    let are : AreAsked n turn at 0 0 sizes = λ i below. ap (λ (xs : List ℕ). get_or xs i 0) same ∙ turning.begins i below ∙ sym (ap (at i) (asked-behind 0 0 (turn i) (omega arith))) in
    let step : (get_or least q 0 < at q 0) × AreAsked n turn at 0 (turn q + 1) (set sizes q (change (get_or sizes q 0))) =
    same_round least widths at change turn 0 0 sizes q turning (column-placing start n start_in) are first.inside size (omega arith) first.above
    (λ i below passed before. elim (cases_lt (get_or least i 0) (get_or sizes i 0)) [
      | inl above ↦ let le : turn q ≤ turn i = first.first i below above in absurd (omega arith)
      | inr low ↦ low
    ]) in
    record { named = q; turns = 0; inside = first.inside; goes_on = refl; above = step.0; are = step.1 }

later-turn : (least widths : List ℕ) (at : ℕ → ℕ → ℕ) (change : ℕ → ℕ) (start next : ℕ) (sizes : List ℕ) (q : ℕ) → IsTurning least widths at change → start < length widths → IsTurned least widths at (from_column start (length widths)) next sizes
    → IsFirstAbove (InPlace (from_column (start_of next (length widths)) (length widths))) least sizes (length widths) q → length sizes ≡ length widths
    → IsTurned least widths at (from_column start (length widths)) (q + 1) (set sizes q (change (get_or sizes q 0)))
later-turn least widths at change start next sizes q turning start_in before named size =
    let n : ℕ = length widths in
    let p : ℕ = before.named in
    let turn : ℕ → ℕ = from_column start n in
    let P : ℕ → Type 0 = λ (m : ℕ). IsFirstAbove (InPlace (from_column (start_of m n) n)) least sizes n q in
    let first : IsFirstAbove (InPlace (turned start n p)) least sizes n q = subst P before.goes_on named in
    let q_in : q < n = first.inside in
    let p_in : p < n = before.inside in
    elim (cases_lt (turn p) (turn q)) [
      | inl behind ↦
          let q_place : turned start n p q ≡ turn q - (turn p + 1) = turned-behind start n p q start_in p_in q_in behind in
          let step : (get_or least q 0 < at q before.turns) × AreAsked n turn at before.turns (turn q + 1) (set sizes q (change (get_or sizes q 0))) =
          same_round least widths at change turn before.turns (turn p + 1) sizes q turning (column-placing start n (omega arith)) before.are q_in size (omega arith) first.above
          (λ i below passed earlier. elim (cases_lt (get_or least i 0) (get_or sizes i 0)) [
            | inl above ↦
                let le : turned start n p q ≤ turned start n p i = first.first i below above in
                let i_place : turned start n p i ≡ turn i - (turn p + 1) = turned-behind start n p i start_in p_in below (omega arith) in
                absurd (omega arith)
            | inr low ↦ low
          ]) in
          record { named = q; turns = before.turns; inside = q_in; goes_on = refl; above = step.0; are = step.1 }
      | inr not_behind ↦
          let q_place : turned start n p q ≡ turn q + n - (turn p + 1) = turned-before start n p q start_in p_in q_in not_behind in
          let p_turn : turn p < n = turn_inside start n p start_in p_in in
          let step : (get_or least q 0 < at q (before.turns + 1)) × AreAsked n turn at (before.turns + 1) (turn q + 1) (set sizes q (change (get_or sizes q 0))) =
          next_round least widths at change turn before.turns (turn p + 1) sizes q turning (column-placing start n (omega arith)) before.are q_in size (omega arith) first.above
          (λ i below where_it_is. elim (cases_lt (get_or least i 0) (get_or sizes i 0)) [
            | inl above ↦
                let le : turned start n p q ≤ turned start n p i = first.first i below above in
                let i_turn : turn i < n = turn_inside start n i start_in below in
                absurd (elim where_it_is [
                  | inl passed ↦ let i_place : turned start n p i ≡ turn i - (turn p + 1) = turned-behind start n p i start_in p_in below (omega arith) in omega arith
                  | inr earlier ↦ let i_place : turned start n p i ≡ turn i + n - (turn p + 1) = turned-before start n p i start_in p_in below (omega arith) in omega arith
                ])
            | inr low ↦ low
          ]) in
          record { named = q; turns = before.turns + 1; inside = q_in; goes_on = refl; above = step.0; are = step.1 }
    ]

-- each answer that names a column keeps this
pub turn-step : (least widths : List ℕ) (at : ℕ → ℕ → ℕ) (change : ℕ → ℕ) (before next : ℕ) (sizes : List ℕ) (q after : ℕ) → IsTurning least widths at change → length sizes ≡ length widths
    → KeepsTurns least widths at (from_column (start_of before (length widths)) (length widths)) before next sizes → turn_peaks next least sizes (Some q) after → q < length sizes
    → KeepsTurns least widths at (from_column (start_of before (length widths)) (length widths)) before after (set sizes q (change (get_or sizes q 0)))
turn-step least widths at change before next sizes q after turning size keeps answer inside =
    let n : ℕ = length widths in
    let Turned : ℕ → Type 0 = λ (m : ℕ). IsTurned least widths at (from_column (start_of before n) n) m (set sizes q (change (get_or sizes q 0))) in
    let Q : ℕ → Type 0 = λ (m : ℕ). IsFirstAbove (InPlace (from_column (start_of next m) m)) least sizes m q in
    let named : IsFirstAbove (InPlace (from_column (start_of next n) n)) least sizes n q = subst Q size answer.0 in
    let start_in : start_of before n < n = start_inside before n (omega arith) in
    inr (subst Turned (sym answer.1) (elim keeps [
      | inl begun ↦
          let R : ℕ → Type 0 = λ (m : ℕ). IsFirstAbove (InPlace (from_column (start_of m n) n)) least sizes n q in
          first-turn least widths at change (start_of before n) sizes q turning (omega arith) begun.1 (subst R begun.0 named) size
      | inr was ↦ later-turn least widths at change (start_of before n) next sizes q turning start_in was named size
    ]))

pub start_of_zero : (count : ℕ) → start_of 0 count ≡ 0
start_of_zero count = grind (arith, nat_tests)
