-- What the priority that goes round makes of widths.
use Rattle.std.proofs.Common.{◌≡◌, ℕ, zero, suc, ◌+◌, ◌-◌, ◌<◌, ◌≤◌, List, [], ◌∷◌, length, get_or, sum, min, refl, sym, ◌∙◌, ap, arith, inl, inr}
use Rattle.std.specs.Prelude.{◌⊎◌, nat_lt, ◌==◌, Option, Some, None, if◌then◌else◌}
use Rattle.std.proofs.lemmas.Bool.{cases_lt, cases_order}
use Rattle.std.proofs.lemmas.Bool.Decides.{nat_tests}
use Rattle.tabled_size_priority.specs.LevelRules.Columns.{from_column}
use Rattle.tabled_size_priority.specs.Growing.{IsGrownInTurns, size_grown_in_turns, grown_in_turns}
use Rattle.tabled_size_priority.specs.Peaks.{start_of, turn_peaks}
use Rattle.tabled_size_priority.specs.Running.{IsGrownBy, IsNowhere, IsShrunkBy}
use Rattle.tabled_size_priority.specs.Shrinking.{IsOfForm, size_in_turns, shrunk_in_turns, shrunk_sum}
use Rattle.tabled_size_priority.specs.Turns.{GoesOnAfter, grows_in_turns, shrinks_in_turns}
use Rattle.tabled_size_priority.specs.Laws.Forms.{one_of_form}
use Rattle.tabled_size_priority.specs.Laws.Growths.{KeepsGrowing, IsGrownWell, StaysAfter, grown_well, nothing_grown}
use Rattle.tabled_size_priority.specs.Laws.Lists.{from_columns}
use Rattle.tabled_size_priority.specs.Laws.Naming.{names-none}
use Rattle.tabled_size_priority.specs.Laws.Runs.{KeepsShrinking, IsShrunkWell, shrunk_well}
use Rattle.tabled_size_priority.specs.Laws.Turning.{IsTurning, KeepsTurns, turn-step}

-- ---- shrinking

-- a column's size after it was named t times
abbrev left_at : List ℕ → List ℕ → ℕ → ℕ → ℕ
left_at least widths i t = get_or widths i 0 - min (get_or widths i 0 - get_or least i 0) t

taking : (least widths : List ℕ) → IsTurning least widths (left_at least widths) (λ v. v - 1)
taking least widths = record { begins = λ i below. omega arith; rests = λ i t low. omega arith; gives = λ i t above. omega arith }

-- numbers alone: w is a width, l its least, s its size, and k how often every column was named
pub size-cases : (k c place w l : ℕ) → ((place < c) × (size_in_turns k c place w l ≡ w - min (w - l) (k + 1))) ⊎ ((c ≤ place) × (size_in_turns k c place w l ≡ w - min (w - l) k))
size-cases k c place w l = elim (cases_lt place c) [ inl before ↦ inl (before, grind (arith, nat_tests)) | inr behind ↦ inr (behind, grind (arith, nat_tests)) ]

keeps-shrinking : (least widths : List ℕ) (before : ℕ)
    → KeepsShrinking turn_peaks least widths (KeepsTurns least widths (left_at least widths) (from_column (start_of before (length widths)) (length widths)) before)
keeps-shrinking least widths before = record {
  above = λ now sizes column after answer inside. let named = answer.0 in named.above;
  step = λ now sizes column after size kept answer inside. turn-step least widths (left_at least widths) (λ v. v - 1) before now sizes column after (taking least widths) size kept answer inside;
  none = λ now sizes answer after size answered nowhere. names-none _ least sizes answer answered.0 nowhere;
}

shrunk-form : (least widths : List ℕ) (turn : ℕ → ℕ) (before after : ℕ) (sizes : List ℕ) (total : ℕ) → length sizes ≡ length widths → sum sizes ≡ total
    → KeepsTurns least widths (left_at least widths) turn before after sizes → IsOfForm (shrunk_in_turns turn least widths) total sizes
shrunk-form least widths turn before after sizes total size sums (inl begun) =
    let same : sizes ≡ widths = begun.1 in
    record {
      number = 0;
      column = 0;
      sums = sums;
      formed = from_columns (λ (i : ℕ). size_in_turns 0 0 (turn i) (get_or widths i 0) (get_or least i 0)) (length widths) sizes size
          (λ i below. ap (λ (xs : List ℕ). get_or xs i 0) same ∙ elim (size-cases 0 0 (turn i) (get_or widths i 0) (get_or least i 0)) [
            | inl never ↦ absurd (let below_zero : turn i < 0 = never.0 in omega arith)
            | inr is ↦ let now : size_in_turns 0 0 (turn i) (get_or widths i 0) (get_or least i 0) ≡ get_or widths i 0 - min (get_or widths i 0 - get_or least i 0) 0 = is.1 in omega arith
          ]);
    }
shrunk-form least widths turn before after sizes total size sums (inr turned) =
    record {
      number = turned.turns;
      column = turn turned.named + 1;
      sums = sums;
      formed = from_columns (λ (i : ℕ). size_in_turns turned.turns (turn turned.named + 1) (turn i) (get_or widths i 0) (get_or least i 0)) (length widths) sizes size turned.are;
    }

shrunk-after : (least widths : List ℕ) (turn : ℕ → ℕ) (before after : ℕ) (sizes : List ℕ)
    → KeepsTurns least widths (left_at least widths) turn before after sizes → GoesOnAfter turn (λ column. get_or widths column 0 - get_or sizes column 0) (length widths) before after
shrunk-after least widths turn before after sizes (inl begun) =
    inl ((λ column below. let same : get_or sizes column 0 ≡ get_or widths column 0 = ap (λ (xs : List ℕ). get_or xs column 0) begun.1 in omega arith), begun.0)
shrunk-after least widths turn before after sizes (inr turned) =
    let p : ℕ = turned.named in
    let k : ℕ = turned.turns in
    let above : get_or least p 0 < get_or widths p 0 - min (get_or widths p 0 - get_or least p 0) k = turned.above in
    let here : get_or sizes p 0 ≡ size_in_turns k (turn p + 1) (turn p) (get_or widths p 0) (get_or least p 0) = turned.are p turned.inside in
    let all : get_or widths p 0 - get_or sizes p 0 ≡ k + 1 = elim (size-cases k (turn p + 1) (turn p) (get_or widths p 0) (get_or least p 0)) [
      | inl is ↦ let now : size_in_turns k (turn p + 1) (turn p) (get_or widths p 0) (get_or least p 0) ≡ get_or widths p 0 - min (get_or widths p 0 - get_or least p 0) (k + 1) = is.1 in omega arith
      | inr never ↦ absurd (let behind : turn p + 1 ≤ turn p = never.0 in omega arith)
    ] in
    inr (
      p,
      record {
        inside = turned.inside;
        changed = omega arith;
        most = λ other below.
            let there : get_or sizes other 0 ≡ size_in_turns k (turn p + 1) (turn other) (get_or widths other 0) (get_or least other 0) = turned.are other below in
            elim (size-cases k (turn p + 1) (turn other) (get_or widths other 0) (get_or least other 0)) [
              | inl is ↦ let now : size_in_turns k (turn p + 1) (turn other) (get_or widths other 0) (get_or least other 0) ≡ get_or widths other 0 - min (get_or widths other 0 - get_or least other 0) (k + 1) = is.1 in omega arith
              | inr is ↦ let now : size_in_turns k (turn p + 1) (turn other) (get_or widths other 0) (get_or least other 0) ≡ get_or widths other 0 - min (get_or widths other 0 - get_or least other 0) k = is.1 in omega arith
            ];
        last = λ other below same.
            let there : get_or sizes other 0 ≡ size_in_turns k (turn p + 1) (turn other) (get_or widths other 0) (get_or least other 0) = turned.are other below in
            elim (size-cases k (turn p + 1) (turn other) (get_or widths other 0) (get_or least other 0)) [
              | inl is ↦ let earlier : turn other < turn p + 1 = is.0 in omega arith
              | inr is ↦ let now : size_in_turns k (turn p + 1) (turn other) (get_or widths other 0) (get_or least other 0) ≡ get_or widths other 0 - min (get_or widths other 0 - get_or least other 0) k = is.1 in absurd (omega arith)
            ];
      },
      turned.goes_on,
    )

pub turns_shrunk : (before : ℕ) (least : List ℕ) (by : ℕ) (widths : List ℕ) (after : ℕ) (sizes : List ℕ) → IsShrunkBy turn_peaks before least by widths after sizes → shrinks_in_turns before least by widths after sizes
turns_shrunk before least by widths after sizes run =
    let turn : ℕ → ℕ = from_column (start_of before (length widths)) (length widths) in
    let well : IsShrunkWell least widths by (KeepsTurns least widths (left_at least widths) turn before) after sizes =
    shrunk_well turn_peaks (KeepsTurns least widths (left_at least widths) turn before) before least by widths after sizes (keeps-shrinking least widths before) (inl (refl, refl)) run in
    (shrunk-form least widths turn before after sizes (shrunk_sum least widths by) well.size well.sums well.kept, shrunk-after least widths turn before after sizes well.kept)

-- ---- growing

abbrev grown_at : List ℕ → ℕ → ℕ → ℕ
grown_at widths i t = if get_or widths i 0 == 0 then 0 else get_or widths i 0 + t

grown-none : (w t : ℕ) → w ≡ 0 → (if w == 0 then 0 else w + t) ≡ 0
grown-none w t h = grind (arith, nat_tests)

grown-some : (w t : ℕ) → 0 < w → (if w == 0 then 0 else w + t) ≡ w + t
grown-some w t h = grind (arith, nat_tests)

giving : (widths : List ℕ) → IsTurning [] widths (grown_at widths) (λ v. v + 1)
giving widths = record {
  begins = λ i below. elim (cases_lt 0 (get_or widths i 0)) [
    | inl some ↦ let is : grown_at widths i 0 ≡ get_or widths i 0 + 0 = grown-some (get_or widths i 0) 0 some in omega arith
    | inr none ↦ let is : grown_at widths i 0 ≡ 0 = grown-none (get_or widths i 0) 0 (omega arith) in omega arith
  ];
  rests = λ i t low. elim (cases_lt 0 (get_or widths i 0)) [
    | inl some ↦ let is : grown_at widths i t ≡ get_or widths i 0 + t = grown-some (get_or widths i 0) t some in absurd (omega arith)
    | inr none ↦ grown-none (get_or widths i 0) (t + 1) (omega arith) ∙ sym (grown-none (get_or widths i 0) t (omega arith))
  ];
  gives = λ i t above. elim (cases_lt 0 (get_or widths i 0)) [
    | inl some ↦
        let is : grown_at widths i t ≡ get_or widths i 0 + t = grown-some (get_or widths i 0) t some in
        let next : grown_at widths i (t + 1) ≡ get_or widths i 0 + (t + 1) = grown-some (get_or widths i 0) (t + 1) some in omega arith
    | inr none ↦ let is : grown_at widths i t ≡ 0 = grown-none (get_or widths i 0) t (omega arith) in absurd (omega arith)
  ];
}

-- numbers alone
pub grown-cases : (k c place w : ℕ) → ((w ≡ 0) × (size_grown_in_turns k c place w ≡ 0)) ⊎ ((0 < w) × (((place < c) × (size_grown_in_turns k c place w ≡ w + (k + 1))) ⊎ ((c ≤ place) × (size_grown_in_turns k c place w ≡ w + k))))
grown-cases k c place w = elim (cases_lt 0 w) [
  | inr none ↦ inl (omega arith, grown-none w (if nat_lt place c then k + 1 else k) (omega arith))
  | inl some ↦ inr (
    some,
    elim (cases_lt place c) [
      | inl before ↦ inl (before, grown-some w (if nat_lt place c then k + 1 else k) some ∙ ap (λ (t : ℕ). w + t) (grind (arith, nat_tests)))
      | inr behind ↦ inr (behind, grown-some w (if nat_lt place c then k + 1 else k) some ∙ ap (λ (t : ℕ). w + t) (grind (arith, nat_tests)))
    ],
  )
]

-- a column that is not 0 stays so
stays-positive : (widths : List ℕ) (turn : ℕ → ℕ) (before after : ℕ) (sizes : List ℕ) (i : ℕ) → i < length widths → 0 < get_or widths i 0 → KeepsTurns [] widths (grown_at widths) turn before after sizes → 0 < get_or sizes i 0
stays-positive widths turn before after sizes i inside some (inl begun) = let same : get_or sizes i 0 ≡ get_or widths i 0 = ap (λ (xs : List ℕ). get_or xs i 0) begun.1 in omega arith
stays-positive widths turn before after sizes i inside some (inr turned) =
    let is : get_or sizes i 0 ≡ grown_at widths i (if nat_lt (turn i) (turn turned.named + 1) then turned.turns + 1 else turned.turns) = turned.are i inside in
    let sum_is : grown_at widths i (if nat_lt (turn i) (turn turned.named + 1) then turned.turns + 1 else turned.turns) ≡ get_or widths i 0 + (if nat_lt (turn i) (turn turned.named + 1) then turned.turns + 1 else turned.turns) =
    grown-some (get_or widths i 0) (if nat_lt (turn i) (turn turned.named + 1) then turned.turns + 1 else turned.turns) some in
    omega arith

keeps-growing : (widths : List ℕ) (before i : ℕ) → i < length widths → 0 < get_or widths i 0
    → KeepsGrowing turn_peaks widths (KeepsTurns [] widths (grown_at widths) (from_column (start_of before (length widths)) (length widths)) before)
keeps-growing widths before i below some = record {
  step = λ now sizes column after size kept answer inside. turn-step [] widths (grown_at widths) (λ v. v + 1) before now sizes column after (giving widths) size kept answer inside;
  some = λ now sizes answer after size kept answered nowhere.
      let none : get_or sizes i 0 ≤ 0 = names-none _ [] sizes answer answered.0 nowhere i (omega arith) in
      let positive : 0 < get_or sizes i 0 = stays-positive widths (from_column (start_of before (length widths)) (length widths)) before now sizes i below some kept in
      omega arith;
}

grown-form : (widths : List ℕ) (turn : ℕ → ℕ) (before after : ℕ) (sizes : List ℕ) (total : ℕ) → length sizes ≡ length widths → sum sizes ≡ total
    → KeepsTurns [] widths (grown_at widths) turn before after sizes → IsOfForm (grown_in_turns turn widths) total sizes
grown-form widths turn before after sizes total size sums (inl begun) =
    record {
      number = 0;
      column = 0;
      sums = sums;
      formed = from_columns (λ (i : ℕ). size_grown_in_turns 0 0 (turn i) (get_or widths i 0)) (length widths) sizes size
          (λ i below.
          let same : get_or sizes i 0 ≡ get_or widths i 0 = ap (λ (xs : List ℕ). get_or xs i 0) begun.1 in
          elim (grown-cases 0 0 (turn i) (get_or widths i 0)) [
            | inl none ↦ let zero_there : get_or widths i 0 ≡ 0 = none.0 in let is : size_grown_in_turns 0 0 (turn i) (get_or widths i 0) ≡ 0 = none.1 in omega arith
            | inr some ↦ elim some.1 [
              | inl never ↦ absurd (let below_zero : turn i < 0 = never.0 in omega arith)
              | inr is ↦ let now : size_grown_in_turns 0 0 (turn i) (get_or widths i 0) ≡ get_or widths i 0 + 0 = is.1 in omega arith
            ]
          ]);
    }
grown-form widths turn before after sizes total size sums (inr turned) =
    record {
      number = turned.turns;
      column = turn turned.named + 1;
      sums = sums;
      formed = from_columns (λ (i : ℕ). size_grown_in_turns turned.turns (turn turned.named + 1) (turn i) (get_or widths i 0)) (length widths) sizes size turned.are;
    }

grown-after : (widths : List ℕ) (turn : ℕ → ℕ) (before after : ℕ) (sizes : List ℕ)
    → KeepsTurns [] widths (grown_at widths) turn before after sizes → GoesOnAfter turn (λ column. get_or sizes column 0 - get_or widths column 0) (length widths) before after
grown-after widths turn before after sizes (inl begun) =
    inl ((λ column below. let same : get_or sizes column 0 ≡ get_or widths column 0 = ap (λ (xs : List ℕ). get_or xs column 0) begun.1 in omega arith), begun.0)
grown-after widths turn before after sizes (inr turned) =
    let p : ℕ = turned.named in
    let k : ℕ = turned.turns in
    let above : 0 < grown_at widths p k = turned.above in
    let some : 0 < get_or widths p 0 = elim (cases_lt 0 (get_or widths p 0)) [
      | inl yes_there ↦ yes_there
      | inr none ↦ let is : grown_at widths p k ≡ 0 = grown-none (get_or widths p 0) k (omega arith) in absurd (omega arith)
    ] in
    let here : get_or sizes p 0 ≡ size_grown_in_turns k (turn p + 1) (turn p) (get_or widths p 0) = turned.are p turned.inside in
    let all : get_or sizes p 0 - get_or widths p 0 ≡ k + 1 = elim (grown-cases k (turn p + 1) (turn p) (get_or widths p 0)) [
      | inl none ↦ let zero_there : get_or widths p 0 ≡ 0 = none.0 in absurd (omega arith)
      | inr cases ↦ elim cases.1 [
        | inl is ↦ let now : size_grown_in_turns k (turn p + 1) (turn p) (get_or widths p 0) ≡ get_or widths p 0 + (k + 1) = is.1 in omega arith
        | inr never ↦ absurd (let behind : turn p + 1 ≤ turn p = never.0 in omega arith)
      ]
    ] in
    inr (
      p,
      record {
        inside = turned.inside;
        changed = omega arith;
        most = λ other below.
            let there : get_or sizes other 0 ≡ size_grown_in_turns k (turn p + 1) (turn other) (get_or widths other 0) = turned.are other below in
            elim (grown-cases k (turn p + 1) (turn other) (get_or widths other 0)) [
              | inl none ↦ let is : size_grown_in_turns k (turn p + 1) (turn other) (get_or widths other 0) ≡ 0 = none.1 in omega arith
              | inr cases ↦ elim cases.1 [
                | inl is ↦ let now : size_grown_in_turns k (turn p + 1) (turn other) (get_or widths other 0) ≡ get_or widths other 0 + (k + 1) = is.1 in omega arith
                | inr is ↦ let now : size_grown_in_turns k (turn p + 1) (turn other) (get_or widths other 0) ≡ get_or widths other 0 + k = is.1 in omega arith
              ]
            ];
        last = λ other below same.
            let there : get_or sizes other 0 ≡ size_grown_in_turns k (turn p + 1) (turn other) (get_or widths other 0) = turned.are other below in
            elim (grown-cases k (turn p + 1) (turn other) (get_or widths other 0)) [
              | inl none ↦ let is : size_grown_in_turns k (turn p + 1) (turn other) (get_or widths other 0) ≡ 0 = none.1 in absurd (omega arith)
              | inr cases ↦ elim cases.1 [
                | inl is ↦ let earlier : turn other < turn p + 1 = is.0 in omega arith
                | inr is ↦ let now : size_grown_in_turns k (turn p + 1) (turn other) (get_or widths other 0) ≡ get_or widths other 0 + k = is.1 in absurd (omega arith)
              ]
            ];
      },
      turned.goes_on,
    )

-- a list has an element that is not 0, or none
pub some_positive : (xs : List ℕ) → ((i : ℕ) × (i < length xs) × (0 < get_or xs i 0)) ⊎ ((i : ℕ) → i < length xs → get_or xs i 0 ≡ 0)
some_positive [] = inr (λ i below. absurd (omega arith))
some_positive (suc x ∷ xs) = inl (0, omega arith, omega arith)
some_positive (zero ∷ xs) = elim (some_positive xs) [
  | inl found ↦ inl (suc found.0, let below : found.0 < length xs = found.1 in omega arith, found.2)
  | inr none ↦ inr (λ i. elim i as (λ k. k < length (zero ∷ xs) → get_or (zero ∷ xs) k 0 ≡ 0) [
    | zero ↦ λ below. refl
    | suc k ↦ λ below. none k (omega arith)
  ])
]

turns-well : (before by : ℕ) (widths : List ℕ) (after : ℕ) (sizes : List ℕ) (i : ℕ) → i < length widths → 0 < get_or widths i 0 → IsGrownBy turn_peaks before by widths after sizes
    → IsGrownWell widths by (KeepsTurns [] widths (grown_at widths) (from_column (start_of before (length widths)) (length widths)) before) after sizes
turns-well before by widths after sizes i below some run =
    grown_well turn_peaks (KeepsTurns [] widths (grown_at widths) (from_column (start_of before (length widths)) (length widths)) before) before by widths after sizes (keeps-growing widths before i below some) (inl (refl, refl)) run

turns-none : (before by : ℕ) (widths : List ℕ) (after : ℕ) (sizes : List ℕ) → ((i : ℕ) → i < length widths → get_or widths i 0 ≡ 0) → IsGrownBy turn_peaks before by widths after sizes
    → (sizes ≡ widths) × StaysAfter turn_peaks before widths after
turns-none before by widths after sizes none run =
    nothing_grown turn_peaks before by widths after sizes
    (λ column end answer inside. let named = answer.0 in let above : 0 < get_or widths column 0 = named.above in let zero_there : get_or widths column 0 ≡ 0 = none column inside in omega arith) run

-- an answer that names no column leaves the priority where it is
stays-there : (before : ℕ) (widths : List ℕ) (answer : Option ℕ) (after : ℕ) → turn_peaks before [] widths answer after → IsNowhere (length widths) answer → after ≡ before
stays-there before widths None after answered nowhere = answered.1
stays-there before widths (Some column) after answered nowhere = let named = answered.0 in let inside : column < length widths = named.inside in absurd (omega arith)

pub turns_grown : (before by : ℕ) (widths : List ℕ) (after : ℕ) (sizes : List ℕ) → IsGrownBy turn_peaks before by widths after sizes → grows_in_turns before by widths after sizes
turns_grown before by widths after sizes run =
    let turn : ℕ → ℕ = from_column (start_of before (length widths)) (length widths) in
    let same_sizes : (sizes ≡ widths) → (i : ℕ) → get_or sizes i 0 ≡ get_or widths i 0 = λ same i. ap (λ (xs : List ℕ). get_or xs i 0) same in (
      record {
        nothing = λ none. let stays = turns-none before by widths after sizes none run in stays.0;
        turns = λ found.
            let well : IsGrownWell widths by (KeepsTurns [] widths (grown_at widths) turn before) after sizes = turns-well before by widths after sizes found.0 found.1 found.2 run in
            grown-form widths turn before after sizes (sum widths + by) well.size well.sums well.kept;
      },
      elim (some_positive widths) [
        | inl found ↦
            let well : IsGrownWell widths by (KeepsTurns [] widths (grown_at widths) turn before) after sizes = turns-well before by widths after sizes found.0 found.1 found.2 run in
            grown-after widths turn before after sizes well.kept
        | inr none ↦
            let stays = turns-none before by widths after sizes none run in
            inl (
              (λ column below. let same : get_or sizes column 0 ≡ get_or widths column 0 = same_sizes stays.0 column in omega arith),
              elim stays.1 [ inl same ↦ same | inr ended ↦ stays-there before widths ended.0 after ended.1 ended.2 ],
            )
      ],
    )

-- ---- one list

size-chained : (w l k a c b d x y : ℕ) → (a < b) ⊎ ((a ≡ b) × (c ≤ d)) → ((k < c) × (x ≡ w - min (w - l) (a + 1))) ⊎ ((c ≤ k) × (x ≡ w - min (w - l) a))
    → ((k < d) × (y ≡ w - min (w - l) (b + 1))) ⊎ ((d ≤ k) × (y ≡ w - min (w - l) b)) → y ≤ x
size-chained w l k a c b d x y later a_cases b_cases = grind arith

size-chain : (w l k a c b d : ℕ) → (a < b) ⊎ ((a ≡ b) × (c ≤ d)) → size_in_turns b d k w l ≤ size_in_turns a c k w l
size-chain w l k a c b d later = size-chained w l k a c b d (size_in_turns a c k w l) (size_in_turns b d k w l) later (size-cases a c k w l) (size-cases b d k w l)

pub turns_one : (turn : ℕ → ℕ) (least widths : List ℕ) (total : ℕ) (xs ys : List ℕ) → IsOfForm (shrunk_in_turns turn least widths) total xs → IsOfForm (shrunk_in_turns turn least widths) total ys → xs ≡ ys
turns_one turn least widths total xs ys one two =
    let at : ℕ → ℕ → ℕ → ℕ = λ (a : ℕ) (c : ℕ) (i : ℕ). size_in_turns a c (turn i) (get_or widths i 0) (get_or least i 0) in
    one_of_form (shrunk_in_turns turn least widths) at (length widths) (λ a c. refl) total
    (λ a c b d. elim (cases_order a b) [
      | inl same ↦ elim (cases_lt c d) [
        | inl less ↦ inr (λ i below. size-chain (get_or widths i 0) (get_or least i 0) (turn i) a c b d (inr (same, omega arith)))
        | inr more ↦ inl (λ i below. size-chain (get_or widths i 0) (get_or least i 0) (turn i) b d a c (inr (sym same, more)))
      ]
      | inr apart ↦ elim apart [
        | inl less ↦ inr (λ i below. size-chain (get_or widths i 0) (get_or least i 0) (turn i) a c b d (inl less))
        | inr more ↦ inl (λ i below. size-chain (get_or widths i 0) (get_or least i 0) (turn i) b d a c (inl more))
      ]
    ])
    xs ys one two

grown-chained : (w k a c b d x y : ℕ) → (a < b) ⊎ ((a ≡ b) × (c ≤ d)) → ((w ≡ 0) × (x ≡ 0)) ⊎ ((0 < w) × (((k < c) × (x ≡ w + (a + 1))) ⊎ ((c ≤ k) × (x ≡ w + a))))
    → ((w ≡ 0) × (y ≡ 0)) ⊎ ((0 < w) × (((k < d) × (y ≡ w + (b + 1))) ⊎ ((d ≤ k) × (y ≡ w + b)))) → x ≤ y
grown-chained w k a c b d x y later a_cases b_cases = grind arith

grown-chain : (w k a c b d : ℕ) → (a < b) ⊎ ((a ≡ b) × (c ≤ d)) → size_grown_in_turns a c k w ≤ size_grown_in_turns b d k w
grown-chain w k a c b d later = grown-chained w k a c b d (size_grown_in_turns a c k w) (size_grown_in_turns b d k w) later (grown-cases a c k w) (grown-cases b d k w)

grown-one : (turn : ℕ → ℕ) (widths : List ℕ) (total : ℕ) (xs ys : List ℕ) → IsOfForm (grown_in_turns turn widths) total xs → IsOfForm (grown_in_turns turn widths) total ys → xs ≡ ys
grown-one turn widths total xs ys one two =
    let at : ℕ → ℕ → ℕ → ℕ = λ (a : ℕ) (c : ℕ) (i : ℕ). size_grown_in_turns a c (turn i) (get_or widths i 0) in
    one_of_form (grown_in_turns turn widths) at (length widths) (λ a c. refl) total
    (λ a c b d. elim (cases_order a b) [
      | inl same ↦ elim (cases_lt c d) [
        | inl less ↦ inl (λ i below. grown-chain (get_or widths i 0) (turn i) a c b d (inr (same, omega arith)))
        | inr more ↦ inr (λ i below. grown-chain (get_or widths i 0) (turn i) b d a c (inr (sym same, more)))
      ]
      | inr apart ↦ elim apart [
        | inl less ↦ inl (λ i below. grown-chain (get_or widths i 0) (turn i) a c b d (inl less))
        | inr more ↦ inr (λ i below. grown-chain (get_or widths i 0) (turn i) b d a c (inl more))
      ]
    ])
    xs ys one two

pub grown_turns_one : (start by : ℕ) (widths xs ys : List ℕ) → IsGrownInTurns start by widths xs → IsGrownInTurns start by widths ys → xs ≡ ys
grown_turns_one start by widths xs ys one two = elim (some_positive widths) [
  | inl found ↦ grown-one (from_column start (length widths)) widths (sum widths + by) xs ys (one.turns found) (two.turns found)
  | inr none ↦ one.nothing none ∙ sym (two.nothing none)
]
