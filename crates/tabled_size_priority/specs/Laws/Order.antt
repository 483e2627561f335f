-- Lists that are shrunk in order: each column gives its whole gap before the next gives any.
use Rattle.std.proofs.Common.{◌≡◌, ℕ, ◌-◌, ◌<◌, ◌≤◌, List, length, get_or, set, sum, min, refl, sym, ◌∙◌, ap, subst, arith, ◌≢◌, inl, inr, Bool}
use Rattle.std.specs.Prelude.{◌⊎◌, Some}
use Rattle.std.proofs.lemmas.Bool.{cases_lt, cases_order}
use Rattle.std.proofs.lemmas.Bool.Decides.{nat_tests}
use Rattle.tabled_size_priority.specs.LevelRules.Columns.{from_side, by_width}
use Rattle.tabled_size_priority.specs.Shrinking.{IsOfForm, size_in_order, shrunk_in_order, shrunk_sum, IsShrunkFromSide, IsShrunkByNarrowest}
use Rattle.tabled_size_priority.specs.Peaking.{IsFirstAbove, Narrowest, NamesNarrowest}
use Rattle.tabled_size_priority.specs.Laws.Forms.{one_of_form}
use Rattle.tabled_size_priority.specs.Laws.Lists.{from_columns, set_cases}
use Rattle.tabled_size_priority.specs.Laws.Places.{IsPlacing, by_width-first, side-placing, width-placing}
use Rattle.tabled_size_priority.specs.Laws.Naming.{names-none, narrowest-first, narrowest-none}
use Rattle.tabled_size_priority.specs.Laws.Runs.{KeepsShrinking, IsShrunkWell, shrunk_well}
use Rattle.tabled_size_priority.specs.Peaks.{side_peaks, narrowest_peaks}
use Rattle.tabled_size_priority.specs.Running.{IsShrunkBy}

-- ---- the form at one column

before-is : (given c place width least : ℕ) → place < c → size_in_order given c place width least ≡ min width least
before-is given c place width least h = grind (arith, nat_tests)

at-is : (given c place width least : ℕ) → place ≡ c → size_in_order given c place width least ≡ width - min (width - least) given
at-is given c place width least h = grind (arith, nat_tests)

behind-is : (given c place width least : ℕ) → c < place → size_in_order given c place width least ≡ width
behind-is given c place width least h = grind (arith, nat_tests)

-- a column whose place is before that of another has given all it can, or the other nothing
pub record InOrder (place : ℕ → ℕ) (least widths sizes : List ℕ) : Type 0 where
  pub given : ℕ
  pub c : ℕ
  pub formed : (i : ℕ) → i < length widths → get_or sizes i 0 ≡ size_in_order given c (place i) (get_or widths i 0) (get_or least i 0)

-- the column that gives next
next-other : (given c p_place k v p_width p_least w l s : ℕ) → s ≡ size_in_order given c k w l → v ≡ size_in_order given c p_place p_width p_least → p_least < v
    → (k < p_place → s ≤ l) → k ≢ p_place → s ≡ size_in_order (p_width - (v - 1)) p_place k w l
next-other given c p_place k v p_width p_least w l s s_is v_is above low other =
    elim (cases_order k p_place) [
      | inl same ↦ absurd (other same)
      | inr apart ↦ elim apart [
        | inl before ↦
            let new : size_in_order (p_width - (v - 1)) p_place k w l ≡ min w l = before-is _ _ _ w l before in
            let is_low : s ≤ l = low before in
            elim (cases_order k c) [
              | inl at ↦ let was : size_in_order given c k w l ≡ w - min (w - l) given = at-is given c k w l at in omega arith
              | inr apart_c ↦ elim apart_c [
                | inl before_c ↦ let was : size_in_order given c k w l ≡ min w l = before-is given c k w l before_c in omega arith
                | inr behind_c ↦ let was : size_in_order given c k w l ≡ w = behind-is given c k w l behind_c in omega arith
              ]
            ]
        | inr behind ↦
            let new : size_in_order (p_width - (v - 1)) p_place k w l ≡ w = behind-is _ _ _ w l behind in
            elim (cases_lt p_place c) [
              | inl done ↦ let was : size_in_order given c p_place p_width p_least ≡ min p_width p_least = before-is given c p_place p_width p_least done in absurd (omega arith)
              | inr not_done ↦ let was : size_in_order given c k w l ≡ w = behind-is given c k w l (omega arith) in omega arith
            ]
      ]
    ]

next-here : (given c p_place v w l : ℕ) → v ≡ size_in_order given c p_place w l → l < v → v - 1 ≡ size_in_order (w - (v - 1)) p_place p_place w l
next-here given c p_place v w l v_is above =
    let new : size_in_order (w - (v - 1)) p_place p_place w l ≡ w - min (w - l) (w - (v - 1)) = at-is (w - (v - 1)) p_place p_place w l refl in
    let le : v ≤ w = elim (cases_order p_place c) [
      | inl at ↦ let was : size_in_order given c p_place w l ≡ w - min (w - l) given = at-is given c p_place w l at in omega arith
      | inr apart ↦ elim apart [
        | inl before ↦ let was : size_in_order given c p_place w l ≡ min w l = before-is given c p_place w l before in omega arith
        | inr behind ↦ let was : size_in_order given c p_place w l ≡ w = behind-is given c p_place w l behind in omega arith
      ]
    ] in
    omega arith

-- the next column in order gives one
pub order-step : (place : ℕ → ℕ) (least widths sizes : List ℕ) (column : ℕ) → IsPlacing place (length widths) → length sizes ≡ length widths → InOrder place least widths sizes
    → column < length sizes → get_or least column 0 < get_or sizes column 0
    → ((i : ℕ) → i < length widths → place i < place column → get_or sizes i 0 ≤ get_or least i 0)
    → InOrder place least widths (set sizes column (get_or sizes column 0 - 1))
order-step place least widths sizes column placing size order inside above low =
    let column_inside : column < length widths = omega arith in
    let here : get_or sizes column 0 ≡ size_in_order order.given order.c (place column) (get_or widths column 0) (get_or least column 0) = order.formed column column_inside in
    let New : ℕ → ℕ → Type 0 = λ (i : ℕ) (v : ℕ). i < length widths → v ≡ size_in_order (get_or widths column 0 - (get_or sizes column 0 - 1)) (place column) (place i) (get_or widths i 0) (get_or least i 0) in
    record {
      given = get_or widths column 0 - (get_or sizes column 0 - 1);
      c = place column;
      formed = set_cases New sizes column (get_or sizes column 0 - 1) inside
          (λ below. next-here order.given order.c (place column) (get_or sizes column 0) (get_or widths column 0) (get_or least column 0) here above)
          (λ i other below. next-other order.given order.c (place column) (place i) (get_or sizes column 0) (get_or widths column 0) (get_or least column 0) (get_or widths i 0) (get_or least i 0) (get_or sizes i 0)
          (order.formed i below) here above (low i below) (λ same. other (placing i column below column_inside same)));
    }

pub order-start : (place : ℕ → ℕ) (least widths : List ℕ) → InOrder place least widths widths
order-start place least widths = record {
  given = 0;
  c = 0;
  formed = λ i below.
      elim (cases_lt 0 (place i)) [
        | inl behind ↦ sym (behind-is 0 0 (place i) (get_or widths i 0) (get_or least i 0) behind)
        | inr at ↦ let is : size_in_order 0 0 (place i) (get_or widths i 0) (get_or least i 0) ≡ get_or widths i 0 - min (get_or widths i 0 - get_or least i 0) 0 = at-is 0 0 (place i) (get_or widths i 0) (get_or least i 0) (omega arith) in omega arith
      ];
}

pub order-form : (place : ℕ → ℕ) (least widths sizes : List ℕ) (total : ℕ) → length sizes ≡ length widths → InOrder place least widths sizes → sum sizes ≡ total → IsOfForm (shrunk_in_order place least widths) total sizes
order-form place least widths sizes total size order sums =
    let form : ℕ → ℕ = λ (i : ℕ). size_in_order order.given order.c (place i) (get_or widths i 0) (get_or least i 0) in
    record { number = order.given; column = order.c; formed = from_columns form (length widths) sizes size order.formed; sums = sums }

-- ---- from a side

keeps-side : {S : Type 0} (right : Bool) (least widths : List ℕ) → KeepsShrinking {S = S} (side_peaks right) least widths (λ _ sizes. InOrder (from_side right (length widths)) least widths sizes)
keeps-side right least widths = record {
  above = λ before sizes column after answer inside. answer.above;
  step = λ before sizes column after size order answer inside.
      order-step (from_side right (length widths)) least widths sizes column (side-placing right (length widths)) size order inside answer.above
      (λ i below earlier. elim (cases_lt (get_or least i 0) (get_or sizes i 0)) [
        | inl above ↦
            let first : from_side right (length sizes) column ≤ from_side right (length sizes) i = answer.first i (omega arith) above in
            let column_place : from_side right (length sizes) column ≡ from_side right (length widths) column = ap (λ n. from_side right n column) size in
            let i_place : from_side right (length sizes) i ≡ from_side right (length widths) i = ap (λ n. from_side right n i) size in
            absurd (omega arith)
        | inr low ↦ low
      ]);
  none = λ before sizes answer after size answered nowhere. names-none _ least sizes answer answered nowhere;
}

pub side_shrunk : {S : Type 0} (right : Bool) (before : S) (least : List ℕ) (by : ℕ) (widths : List ℕ) (after : S) (sizes : List ℕ)
    → IsShrunkBy (side_peaks right) before least by widths after sizes → IsShrunkFromSide right least by widths sizes
side_shrunk {S} right before least by widths after sizes run =
    let place : ℕ → ℕ = from_side right (length widths) in
    let well : IsShrunkWell least widths by (λ (s : S) (found : List ℕ). InOrder place least widths found) after sizes =
    shrunk_well (side_peaks right) (λ _ found. InOrder place least widths found) before least by widths after sizes (keeps-side right least widths) (order-start place least widths) run in
    order-form place least widths sizes (shrunk_sum least widths by) well.size well.kept well.sums

-- ---- the narrowest first

-- a column that goes first in order of width has nothing left to give where a later one is the narrowest that has
narrowest-low : (right : Bool) (least widths sizes : List ℕ) (column i : ℕ) → length sizes ≡ length widths → InOrder (by_width right widths) least widths sizes
    → IsFirstAbove (Narrowest (from_side right (length sizes)) sizes) least sizes (length sizes) column → i < length widths → by_width right widths i < by_width right widths column → get_or sizes i 0 ≤ get_or least i 0
narrowest-low right least widths sizes column i size order named below earlier =
    elim (cases_lt (get_or least i 0) (get_or sizes i 0)) [
      | inr low ↦ low
      | inl above ↦
          let column_inside : column < length sizes = named.inside in
          let column_below : column < length widths = omega arith in
          let formed_i : get_or sizes i 0 ≡ size_in_order order.given order.c (by_width right widths i) (get_or widths i 0) (get_or least i 0) = order.formed i below in
          let formed_column : get_or sizes column 0 ≡ size_in_order order.given order.c (by_width right widths column) (get_or widths column 0) (get_or least column 0) = order.formed column column_below in
          let not_before : order.c ≤ by_width right widths i = elim (cases_lt (by_width right widths i) order.c) [
            | inl before ↦ let was : size_in_order order.given order.c (by_width right widths i) (get_or widths i 0) (get_or least i 0) ≡ min (get_or widths i 0) (get_or least i 0) = before-is _ _ _ _ _ before in absurd (omega arith)
            | inr not ↦ not
          ] in
          let column_was : size_in_order order.given order.c (by_width right widths column) (get_or widths column 0) (get_or least column 0) ≡ get_or widths column 0 = behind-is order.given order.c (by_width right widths column) (get_or widths column 0) (get_or least column 0) (omega arith) in
          let i_le : get_or sizes i 0 ≤ get_or widths i 0 = elim (cases_lt order.c (by_width right widths i)) [
            | inl behind ↦ let was : size_in_order order.given order.c (by_width right widths i) (get_or widths i 0) (get_or least i 0) ≡ get_or widths i 0 = behind-is order.given order.c (by_width right widths i) (get_or widths i 0) (get_or least i 0) behind in omega arith
            | inr at ↦ let was : size_in_order order.given order.c (by_width right widths i) (get_or widths i 0) (get_or least i 0) ≡ get_or widths i 0 - min (get_or widths i 0 - get_or least i 0) order.given = at-is order.given order.c (by_width right widths i) (get_or widths i 0) (get_or least i 0) (omega arith) in omega arith
          ] in
          let narrowest : (get_or sizes column 0 ≤ get_or sizes i 0) × (get_or sizes column 0 ≡ get_or sizes i 0 → from_side right (length sizes) column ≤ from_side right (length sizes) i) = named.first i (omega arith) above in
          let narrower : get_or sizes column 0 ≤ get_or sizes i 0 = narrowest.0 in
          absurd (elim (by_width-first right widths i column below column_below earlier) [
            | inl less ↦ omega arith
            | inr nearer ↦
                let tie : get_or sizes column 0 ≡ get_or sizes i 0 = omega arith in
                let placed : from_side right (length sizes) column ≤ from_side right (length sizes) i = narrowest.1 tie in
                let column_place : from_side right (length sizes) column ≡ from_side right (length widths) column = ap (λ n. from_side right n column) size in
                let i_place : from_side right (length sizes) i ≡ from_side right (length widths) i = ap (λ n. from_side right n i) size in
                omega arith
          ])
    ]

keeps-narrowest : (right : Bool) (least widths : List ℕ) → length least ≡ length widths
    → KeepsShrinking narrowest_peaks least widths (λ side sizes. (side ≡ right) × InOrder (by_width right widths) least widths sizes)
keeps-narrowest right least widths leasts = record {
  above = λ before sizes column after answer inside. let first = narrowest-first (from_side before (length sizes)) least sizes column answer.0 in first.above;
  step = λ before sizes column after size kept answer inside.
      let P : Bool → Type 0 = λ (side : Bool). NamesNarrowest (from_side side (length sizes)) least sizes (Some column) in
      let named : IsFirstAbove (Narrowest (from_side right (length sizes)) sizes) least sizes (length sizes) column = narrowest-first (from_side right (length sizes)) least sizes column (subst P kept.0 answer.0) in (
        answer.1 ∙ kept.0,
        order-step (by_width right widths) least widths sizes column (width-placing right widths) size kept.1 inside named.above
            (λ i below earlier. narrowest-low right least widths sizes column i size kept.1 named below earlier),
      );
  none = λ before sizes answer after size answered nowhere. narrowest-none (from_side before (length sizes)) least sizes answer (size ∙ sym leasts) answered.0 nowhere;
}

pub narrowest_shrunk : (right : Bool) (least : List ℕ) (by : ℕ) (widths : List ℕ) (after : Bool) (sizes : List ℕ) → length least ≡ length widths
    → IsShrunkBy narrowest_peaks right least by widths after sizes → IsShrunkByNarrowest right least by widths sizes × (after ≡ right)
narrowest_shrunk right least by widths after sizes leasts run =
    let place : ℕ → ℕ = by_width right widths in
    let well : IsShrunkWell least widths by (λ (side : Bool) (found : List ℕ). (side ≡ right) × InOrder place least widths found) after sizes =
    shrunk_well narrowest_peaks (λ side found. (side ≡ right) × InOrder place least widths found) right least by widths after sizes (keeps-narrowest right least widths leasts) (refl, order-start place least widths) run in
    (order-form place least widths sizes (shrunk_sum least widths by) well.size well.kept.1 well.sums, well.kept.0)

-- ---- one list

order-chain : (w l k a c b d : ℕ) → (c < d) ⊎ ((c ≡ d) × (a ≤ b)) → size_in_order b d k w l ≤ size_in_order a c k w l
order-chain w l k a c b d later =
    let c_least : min w l ≤ size_in_order a c k w l = elim (cases_order k c) [
      | inl at ↦ let was : size_in_order a c k w l ≡ w - min (w - l) a = at-is a c k w l at in omega arith
      | inr apart ↦ elim apart [
        | inl before ↦ let was : size_in_order a c k w l ≡ min w l = before-is a c k w l before in omega arith
        | inr behind ↦ let was : size_in_order a c k w l ≡ w = behind-is a c k w l behind in omega arith
      ]
    ] in
    let d_most : size_in_order b d k w l ≤ w = elim (cases_order k d) [
      | inl at ↦ let was : size_in_order b d k w l ≡ w - min (w - l) b = at-is b d k w l at in omega arith
      | inr apart ↦ elim apart [
        | inl before ↦ let was : size_in_order b d k w l ≡ min w l = before-is b d k w l before in omega arith
        | inr behind ↦ let was : size_in_order b d k w l ≡ w = behind-is b d k w l behind in omega arith
      ]
    ] in
    elim (cases_lt k d) [
      | inl before ↦ let now : size_in_order b d k w l ≡ min w l = before-is b d k w l before in omega arith
      | inr not_before ↦ elim (cases_lt c k) [
        | inl behind ↦ let was : size_in_order a c k w l ≡ w = behind-is a c k w l behind in omega arith
        | inr at ↦ elim later [
          | inl less ↦ absurd (omega arith)
          | inr same ↦
              let here : c ≡ d = same.0 in
              let more : a ≤ b = same.1 in
              let was : size_in_order a c k w l ≡ w - min (w - l) a = at-is a c k w l (omega arith) in
              let now : size_in_order b d k w l ≡ w - min (w - l) b = at-is b d k w l (omega arith) in
              omega arith
        ]
      ]
    ]

-- sizes of this form with one sum are one list
pub order_one : (place : ℕ → ℕ) (least widths : List ℕ) (total : ℕ) (xs ys : List ℕ) → IsOfForm (shrunk_in_order place least widths) total xs → IsOfForm (shrunk_in_order place least widths) total ys → xs ≡ ys
order_one place least widths total xs ys one two =
    let at : ℕ → ℕ → ℕ → ℕ = λ (a : ℕ) (c : ℕ) (i : ℕ). size_in_order a c (place i) (get_or widths i 0) (get_or least i 0) in
    one_of_form (shrunk_in_order place least widths) at (length widths) (λ a c. refl) total
    (λ a c b d. elim (cases_order c d) [
      | inl same ↦ elim (cases_lt a b) [
        | inl less ↦ inr (λ i below. order-chain (get_or widths i 0) (get_or least i 0) (place i) a c b d (inr (same, omega arith)))
        | inr more ↦ inl (λ i below. order-chain (get_or widths i 0) (get_or least i 0) (place i) b d a c (inr (sym same, more)))
      ]
      | inr apart ↦ elim apart [
        | inl less ↦ inr (λ i below. order-chain (get_or widths i 0) (get_or least i 0) (place i) a c b d (inl less))
        | inr more ↦ inl (λ i below. order-chain (get_or widths i 0) (get_or least i 0) (place i) b d a c (inl more))
      ]
    ])
    xs ys one two
