-- Lists where one column gets all.
use Rattle.std.proofs.Common.{◌≡◌, ℕ, zero, suc, ◌+◌, ◌<◌, ◌≤◌, List, [], length, get_or, set, sum, refl, sym, ◌∙◌, ap, subst, arith, ◌≢◌, inl, inr, Bool, get_or-set_same, get_or-set_other}
use Rattle.std.specs.Prelude.{◌⊎◌, Option, Some, None}
use Rattle.std.proofs.lemmas.Bool.{cases_lt, cases_order}
use Rattle.std.proofs.lemmas.List.{set-get_or, set-set}
use Rattle.tabled_size_priority.specs.LevelRules.Columns.{from_side}
use Rattle.tabled_size_priority.specs.Growing.{IsGrownAlone, IsGrownFromSide, IsGrownByWidest, all_to}
use Rattle.tabled_size_priority.specs.Peaking.{IsFirstAbove, NamesAmong, InPlace, Widest}
use Rattle.tabled_size_priority.specs.Peaks.{side_peaks, widest_peaks}
use Rattle.tabled_size_priority.specs.Running.{IsGrownBy, IsNowhere}
use Rattle.tabled_size_priority.specs.Laws.Growths.{KeepsGrowing, IsGrownWell, grown_well, nothing_grown, state_stays}
use Rattle.tabled_size_priority.specs.Laws.Lists.{sum-set}
use Rattle.tabled_size_priority.specs.Laws.Naming.{names-none}
use Rattle.tabled_size_priority.specs.Laws.Places.{IsPlacing, side-placing}

-- so much has been given to the column
pub record HasAll (widths : List ℕ) (column : ℕ) (sizes : List ℕ) : Type 0 where
  pub given : ℕ
  pub is : sizes ≡ all_to widths given column

all-start : (widths : List ℕ) (column : ℕ) → HasAll widths column widths
all-start widths column =
    let same : get_or widths column 0 ≡ get_or widths column 0 + 0 = omega arith in
    record { given = 0; is = sym (set-get_or widths column 0) ∙ ap (λ (v : ℕ). set widths column v) same }

-- one more
all-step : (widths : List ℕ) (column : ℕ) (sizes : List ℕ) (named : ℕ) → column < length widths → named ≡ column → HasAll widths column sizes → HasAll widths column (set sizes named (get_or sizes named 0 + 1))
all-step widths column sizes named inside same all =
    let now : get_or sizes column 0 ≡ get_or widths column 0 + all.given = ap (λ (xs : List ℕ). get_or xs column 0) all.is ∙ get_or-set_same widths column (get_or widths column 0 + all.given) 0 inside in
    let next : get_or sizes column 0 + 1 ≡ get_or widths column 0 + (all.given + 1) = omega arith in
    let at_column : set sizes column (get_or sizes column 0 + 1) ≡ all_to widths (all.given + 1) column =
    ap (λ (v : ℕ). set sizes column v) next ∙ ap (λ (xs : List ℕ). set xs column (get_or widths column 0 + (all.given + 1))) all.is
    ∙ set-set widths column (get_or widths column 0 + all.given) (get_or widths column 0 + (all.given + 1)) in
    record { given = all.given + 1; is = ap (λ (i : ℕ). set sizes i (get_or sizes i 0 + 1)) same ∙ at_column }

-- what the sizes then are
all-here : (widths : List ℕ) (column : ℕ) (sizes : List ℕ) → column < length widths → (all : HasAll widths column sizes) → get_or sizes column 0 ≡ get_or widths column 0 + all.given
all-here widths column sizes inside all = ap (λ (xs : List ℕ). get_or xs column 0) all.is ∙ get_or-set_same widths column (get_or widths column 0 + all.given) 0 inside

all-other : (widths : List ℕ) (column : ℕ) (sizes : List ℕ) (other : ℕ) → other ≢ column → HasAll widths column sizes → get_or sizes other 0 ≡ get_or widths other 0
all-other widths column sizes other apart all = ap (λ (xs : List ℕ). get_or xs other 0) all.is ∙ get_or-set_other widths column other (get_or widths column 0 + all.given) 0 apart

all-end : (widths : List ℕ) (column by : ℕ) (sizes : List ℕ) → column < length widths → HasAll widths column sizes → sum sizes ≡ sum widths + by → sizes ≡ all_to widths by column
all-end widths column by sizes inside all sums =
    let total : sum (set widths column (get_or widths column 0 + all.given)) + get_or widths column 0 ≡ sum widths + (get_or widths column 0 + all.given) = sum-set widths column (get_or widths column 0 + all.given) inside in
    let here : sum sizes ≡ sum (set widths column (get_or widths column 0 + all.given)) = ap sum all.is in
    let given : all.given ≡ by = omega arith in
    all.is ∙ ap (λ (m : ℕ). all_to widths m column) given

-- the column is still there to be named
all-some : (goes_before : ℕ → ℕ → Type 0) (widths : List ℕ) (column : ℕ) (sizes : List ℕ) (answer : Option ℕ) → column < length widths → 0 < get_or widths column 0 → length sizes ≡ length widths → HasAll widths column sizes
    → NamesAmong goes_before [] sizes (length sizes) answer → IsNowhere (length sizes) answer → ⊥
all-some goes_before widths column sizes answer inside above size all named nowhere =
    let none : get_or sizes column 0 ≤ 0 = names-none goes_before [] sizes answer named nowhere column (omega arith) in
    let here : get_or sizes column 0 ≡ get_or widths column 0 + all.given = all-here widths column sizes inside all in
    omega arith

-- ---- from a side

side-named : (place : ℕ → ℕ) (widths : List ℕ) (column : ℕ) (sizes : List ℕ) (named : ℕ) → IsPlacing place (length widths) → IsFirstAbove (InPlace place) [] widths (length widths) column → HasAll widths column sizes
    → IsFirstAbove (InPlace place) [] sizes (length widths) named → named ≡ column
side-named place widths column sizes named placing first all now =
    let inside : column < length widths = first.inside in
    let above : 0 < get_or widths column 0 = first.above in
    let here : get_or sizes column 0 ≡ get_or widths column 0 + all.given = all-here widths column sizes inside all in
    let named_first : place named ≤ place column = now.first column inside (omega arith) in
    elim (cases_order named column) [
      | inl same ↦ same
      | inr apart ↦
          let other : named ≢ column = λ same. elim apart [ inl less ↦ omega arith | inr more ↦ omega arith ] in
          let was : get_or sizes named 0 ≡ get_or widths named 0 = all-other widths column sizes named other all in
          let named_above : 0 < get_or sizes named 0 = now.above in
          let column_first : place column ≤ place named = first.first named now.inside (omega arith) in
          placing named column now.inside inside (omega arith)
    ]

keeps-side : {S : Type 0} (right : Bool) (widths : List ℕ) (column : ℕ) → IsFirstAbove (InPlace (from_side right (length widths))) [] widths (length widths) column
    → KeepsGrowing {S = S} (side_peaks right) widths (λ _ sizes. HasAll widths column sizes)
keeps-side right widths column first = record {
  step = λ before sizes named after size all answer inside.
      let Q : ℕ → Type 0 = λ (n : ℕ). IsFirstAbove (InPlace (from_side right n)) [] sizes n named in
      all-step widths column sizes named first.inside (side-named (from_side right (length widths)) widths column sizes named (side-placing right (length widths)) first all (subst Q size answer)) all;
  some = λ before sizes answer after size all answered nowhere. all-some _ widths column sizes answer first.inside first.above size all answered nowhere;
}

pub side_grown : {S : Type 0} (right : Bool) (before : S) (by : ℕ) (widths : List ℕ) (after : S) (sizes : List ℕ) → IsGrownBy (side_peaks right) before by widths after sizes → IsGrownFromSide right by widths sizes
side_grown {S} right before by widths after sizes run = record {
  first_gets_all = λ column first.
      let well : IsGrownWell widths by (λ (s : S) (found : List ℕ). HasAll widths column found) after sizes =
      grown_well (side_peaks right) (λ _ found. HasAll widths column found) before by widths after sizes (keeps-side right widths column first) (all-start widths column) run in
      all-end widths column by sizes first.inside well.kept well.sums;
  none_gets = λ none.
      let stays = nothing_grown (side_peaks right) before by widths after sizes
      (λ column end answer inside. let above : 0 < get_or widths column 0 = answer.above in let low : get_or widths column 0 ≤ 0 = none column inside in omega arith) run in
      stays.0;
}

-- ---- the widest first

widest-named : (place : ℕ → ℕ) (widths : List ℕ) (column : ℕ) (sizes : List ℕ) (named : ℕ) → IsPlacing place (length widths) → IsFirstAbove (Widest place widths) [] widths (length widths) column → HasAll widths column sizes
    → IsFirstAbove (Widest place sizes) [] sizes (length widths) named → named ≡ column
widest-named place widths column sizes named placing first all now =
    let inside : column < length widths = first.inside in
    let above : 0 < get_or widths column 0 = first.above in
    let here : get_or sizes column 0 ≡ get_or widths column 0 + all.given = all-here widths column sizes inside all in
    let named_first : (get_or sizes column 0 ≤ get_or sizes named 0) × (get_or sizes named 0 ≡ get_or sizes column 0 → place named ≤ place column) = now.first column inside (omega arith) in
    elim (cases_order named column) [
      | inl same ↦ same
      | inr apart ↦
          let other : named ≢ column = λ same. elim apart [ inl less ↦ omega arith | inr more ↦ omega arith ] in
          let was : get_or sizes named 0 ≡ get_or widths named 0 = all-other widths column sizes named other all in
          let named_above : 0 < get_or sizes named 0 = now.above in
          let column_first : (get_or widths named 0 ≤ get_or widths column 0) × (get_or widths column 0 ≡ get_or widths named 0 → place column ≤ place named) = first.first named now.inside (omega arith) in
          let wide : get_or sizes column 0 ≤ get_or sizes named 0 = named_first.0 in
          let wide_before : get_or widths named 0 ≤ get_or widths column 0 = column_first.0 in
          let one_way : place named ≤ place column = named_first.1 (omega arith) in
          let other_way : place column ≤ place named = column_first.1 (omega arith) in
          placing named column now.inside inside (omega arith)
    ]

keeps-widest : (right : Bool) (widths : List ℕ) (column : ℕ) → IsFirstAbove (Widest (from_side right (length widths)) widths) [] widths (length widths) column
    → KeepsGrowing widest_peaks widths (λ side sizes. (side ≡ right) × HasAll widths column sizes)
keeps-widest right widths column first = record {
  step = λ before sizes named after size kept answer inside.
      let P : Bool → Type 0 = λ (side : Bool). IsFirstAbove (Widest (from_side side (length sizes)) sizes) [] sizes (length sizes) named in
      let Q : ℕ → Type 0 = λ (n : ℕ). IsFirstAbove (Widest (from_side right n) sizes) [] sizes n named in
      let now : IsFirstAbove (Widest (from_side right (length widths)) sizes) [] sizes (length widths) named = subst Q size (subst P kept.0 answer.0) in (
        answer.1 ∙ kept.0,
        all-step widths column sizes named first.inside (widest-named (from_side right (length widths)) widths column sizes named (side-placing right (length widths)) first kept.1 now) kept.1,
      );
  some = λ before sizes answer after size kept answered nowhere. all-some _ widths column sizes answer first.inside first.above size kept.1 answered.0 nowhere;
}

pub widest_grown : (right : Bool) (by : ℕ) (widths : List ℕ) (after : Bool) (sizes : List ℕ) → IsGrownBy widest_peaks right by widths after sizes → IsGrownByWidest right by widths sizes × (after ≡ right)
widest_grown right by widths after sizes run = (
  record {
    first_gets_all = λ column first.
        let well : IsGrownWell widths by (λ (side : Bool) (found : List ℕ). (side ≡ right) × HasAll widths column found) after sizes =
        grown_well widest_peaks (λ side found. (side ≡ right) × HasAll widths column found) right by widths after sizes (keeps-widest right widths column first) (refl, all-start widths column) run in
        let kept = well.kept in
        all-end widths column by sizes first.inside kept.1 well.sums;
    none_gets = λ none.
        let stays = nothing_grown widest_peaks right by widths after sizes
        (λ column end answer inside. let named = answer.0 in let above : 0 < get_or widths column 0 = named.above in let low : get_or widths column 0 ≤ 0 = none column inside in omega arith) run in
        stays.0;
  },
  state_stays widest_peaks (λ before least found answer end answered. answered.1) right by widths after sizes run,
)

-- ---- one list

-- of one column more
one_more : (goes_before : ℕ → ℕ → Type 0) → ((i j : ℕ) → goes_before i j ⊎ goes_before j i) → ((i j k : ℕ) → goes_before i j → goes_before j k → goes_before i k)
    → (least sizes : List ℕ) (count : ℕ) (answer : Option ℕ) → NamesAmong goes_before least sizes count answer → (now : Option ℕ) × NamesAmong goes_before least sizes (suc count) now
one_more goes_before total trans least sizes count None none = elim (cases_lt (get_or least count 0) (get_or sizes count 0)) [
  | inr low ↦ (
    None,
    λ other below. elim (cases_lt other count) [
      | inl before ↦ none other before
      | inr not_before ↦ let same : other ≡ count = omega arith in
          let P : ℕ → Type 0 = λ (i : ℕ). get_or sizes i 0 ≤ get_or least i 0 in subst P (sym same) low
    ],
  )
  | inl above ↦ (
    Some count,
    record {
      inside = omega arith;
      above = above;
      first = λ other below other_above. elim (cases_lt other count) [
        | inl before ↦ let low : get_or sizes other 0 ≤ get_or least other 0 = none other before in absurd (omega arith)
        | inr not_before ↦ let same : other ≡ count = omega arith in let P : ℕ → Type 0 = λ (i : ℕ). goes_before count i in
            subst P (sym same) (elim (total count count) [ inl itself ↦ itself | inr itself ↦ itself ])
      ];
    },
  )
]
one_more goes_before total trans least sizes count (Some first) named =
    let inside : first < count = named.inside in
    elim (cases_lt (get_or least count 0) (get_or sizes count 0)) [
      | inr low ↦ (
        Some first,
        record {
          inside = omega arith;
          above = named.above;
          first = λ other below other_above. elim (cases_lt other count) [
            | inl before ↦ named.first other before other_above
            | inr not_before ↦ let same : other ≡ count = omega arith in
                let P : ℕ → Type 0 = λ (i : ℕ). get_or sizes i 0 ≤ get_or least i 0 in let other_low : get_or sizes other 0 ≤ get_or least other 0 = subst P (sym same) low in absurd (omega arith)
          ];
        },
      )
      | inl above ↦ elim (total first count) [
        | inl stays ↦ (
          Some first,
          record {
            inside = omega arith;
            above = named.above;
            first = λ other below other_above. elim (cases_lt other count) [
              | inl before ↦ named.first other before other_above
              | inr not_before ↦ let same : other ≡ count = omega arith in let P : ℕ → Type 0 = λ (i : ℕ). goes_before first i in subst P (sym same) stays
            ];
          },
        )
        | inr newer ↦ (
          Some count,
          record {
            inside = omega arith;
            above = above;
            first = λ other below other_above. elim (cases_lt other count) [
              | inl before ↦ trans count first other newer (named.first other before other_above)
              | inr not_before ↦ let same : other ≡ count = omega arith in let P : ℕ → Type 0 = λ (i : ℕ). goes_before count i in
                  subst P (sym same) (elim (total count count) [ inl itself ↦ itself | inr itself ↦ itself ])
            ];
          },
        )
      ]
    ]

-- a column goes first, or none is above 0
first_or_none : (goes_before : ℕ → ℕ → Type 0) → ((i j : ℕ) → goes_before i j ⊎ goes_before j i) → ((i j k : ℕ) → goes_before i j → goes_before j k → goes_before i k)
    → (least sizes : List ℕ) (count : ℕ) → (answer : Option ℕ) × NamesAmong goes_before least sizes count answer
first_or_none goes_before total trans least sizes zero = (None, λ other below. absurd (omega arith))
first_or_none goes_before total trans least sizes (suc count) =
    let so_far : (answer : Option ℕ) × NamesAmong goes_before least sizes count answer = first_or_none goes_before total trans least sizes count in
    one_more goes_before total trans least sizes count so_far.0 so_far.1

same_alone : (goes_before : ℕ → ℕ → Type 0) (by : ℕ) (widths xs ys : List ℕ) (answer : Option ℕ) → NamesAmong goes_before [] widths (length widths) answer → IsGrownAlone goes_before by widths xs → IsGrownAlone goes_before by widths ys → xs ≡ ys
same_alone goes_before by widths xs ys None none one two = one.none_gets none ∙ sym (two.none_gets none)
same_alone goes_before by widths xs ys (Some column) first one two = one.first_gets_all column first ∙ sym (two.first_gets_all column first)

pub side_one : (right : Bool) (by : ℕ) (widths xs ys : List ℕ) → IsGrownFromSide right by widths xs → IsGrownFromSide right by widths ys → xs ≡ ys
side_one right by widths xs ys one two =
    let place : ℕ → ℕ = from_side right (length widths) in
    let named : (answer : Option ℕ) × NamesAmong (InPlace place) [] widths (length widths) answer =
    first_or_none (InPlace place) (λ i j. elim (cases_lt (place j) (place i)) [ inl less ↦ inr (omega arith) | inr not_less ↦ inl not_less ]) (λ i j k first second. omega arith) [] widths (length widths) in
    same_alone (InPlace place) by widths xs ys named.0 named.1 one two

widest-total : (place : ℕ → ℕ) (sizes : List ℕ) (i j : ℕ) → Widest place sizes i j ⊎ Widest place sizes j i
widest-total place sizes i j = elim (cases_order (get_or sizes i 0) (get_or sizes j 0)) [
  | inl same ↦ elim (cases_lt (place j) (place i)) [ inl less ↦ inr (omega arith, λ tie. omega arith) | inr not_less ↦ inl (omega arith, λ tie. not_less) ]
  | inr apart ↦ elim apart [ inl less ↦ inr (omega arith, λ tie. absurd (omega arith)) | inr more ↦ inl (omega arith, λ tie. absurd (omega arith)) ]
]

widest-trans : (place : ℕ → ℕ) (sizes : List ℕ) (i j k : ℕ) → Widest place sizes i j → Widest place sizes j k → Widest place sizes i k
widest-trans place sizes i j k first second =
    let wide : get_or sizes j 0 ≤ get_or sizes i 0 = first.0 in
    let wide_still : get_or sizes k 0 ≤ get_or sizes j 0 = second.0 in (
      omega arith,
      λ tie.
          let one : place i ≤ place j = first.1 (omega arith) in
          let other : place j ≤ place k = second.1 (omega arith) in
          omega arith,
    )

pub widest_one : (right : Bool) (by : ℕ) (widths xs ys : List ℕ) → IsGrownByWidest right by widths xs → IsGrownByWidest right by widths ys → xs ≡ ys
widest_one right by widths xs ys one two =
    let place : ℕ → ℕ = from_side right (length widths) in
    let named : (answer : Option ℕ) × NamesAmong (Widest place widths) [] widths (length widths) answer = first_or_none (Widest place widths) (widest-total place widths) (widest-trans place widths) [] widths (length widths) in
    same_alone (Widest place widths) by widths xs ys named.0 named.1 one two
