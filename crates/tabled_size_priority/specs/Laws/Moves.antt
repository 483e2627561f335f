-- Why what a rule moves is what the closed forms name.
use Rattle.std.proofs.Common.{◌≡◌, ℕ, ◌+◌, ◌-◌, ◌^◌, ◌<◌, ◌≤◌, List, [], length, get_or, sum, min, max, refl, sym, ◌∙◌, ap, subst, arith, inl, inr, Bool}
use Rattle.std.specs.Prelude.{◌⊎◌, Option, Some, None, MatchOption}
use Rattle.std.proofs.lemmas.Bool.{cases_lt, cases_order}
use Rattle.std.proofs.lemmas.Bool.Decides.{nat_tests}
use Rattle.std.proofs.lemmas.List.Sums.{get_or-le-sum_by}
use Rattle.tabled_size_priority.specs.declared.levels.rule.Rule.{Rule}
use Rattle.tabled_size_priority.specs.declared.levels.rule.Rule.TheVariants.{Turns, Widest, Narrowest, Raised, Shared}
use Rattle.tabled_size_priority.specs.LevelRules.Moving.{moved, moved_sum, Takes, IsMovedInOrder, IsTaken, IsTakenWhole, IsGiven, amount_of}
use Rattle.tabled_size_priority.specs.LevelRules.Passes.{none-moved, width-fits}
use Rattle.tabled_size_priority.specs.LevelRules.Steps.{narrow-moves, wide-stays, none-shared, some-shared, taken-limit, one-of-all}
use Rattle.tabled_size_priority.specs.LevelRules.Columns.{from_side, from_column, by_width}
use Rattle.tabled_size_priority.specs.Shrinking.{gap_of, floors, gap_sum, shrunk_sum, IsOfForm, size_in_order, shrunk_in_order, size_at_level, shrunk_to_level, size_in_turns, shrunk_in_turns, StaysBetween}
use Rattle.tabled_size_priority.specs.Growing.{raised_to_level, grown_to_level, size_grown_in_turns, grown_in_turns, IsGrownByNarrowest, IsGrownInTurns}
use Rattle.tabled_size_priority.specs.Turns.{GoesOnAfter, grows_in_turns, shrinks_in_turns}
use Rattle.tabled_size_priority.specs.Peaks.{start_of}
use Rattle.tabled_size_priority.specs.Laws.Lists.{from_columns, map-equal, sum-same}
use Rattle.tabled_size_priority.specs.Laws.Order.{order-form, order-start}
use Rattle.tabled_size_priority.specs.Laws.Places.{IsPlacing, by_width-first, column-placing, width-placing, side-placing}
use Rattle.tabled_size_priority.specs.Laws.Raising.{cases-of}
use Rattle.tabled_size_priority.specs.Laws.Runs.{floors-gaps}
use Rattle.tabled_size_priority.specs.Laws.Turns.{size-cases, grown-cases}

-- ---- each column changes as much as at one number or the next

pub unit-cases : (place first second change : ℕ → ℕ) (count column : ℕ) → IsPlacing place count → IsMovedInOrder place first second change count column → second column ≤ first column + 1
    → (i : ℕ) → i < count → ((place i < place column + 1) × (change i ≡ second i)) ⊎ ((place column + 1 ≤ place i) × (change i ≡ first i))
unit-cases place first second change count column placing order one i below =
    elim (cases_order (place i) (place column)) [
      | inl same ↦
          let is : i ≡ column = placing i column below order.inside same in
          let more : first column < change column = order.more in
          let at_most : change column ≤ second column = order.at_most in
          let here : change column ≡ second column = omega arith in
          let P : ℕ → Type 0 = λ (k : ℕ). change k ≡ second k in inl (omega arith, subst P (sym is) here)
      | inr apart ↦ elim apart [
        | inl before ↦ inl (omega arith, order.before i below before)
        | inr behind ↦ inr (omega arith, order.behind i below behind)
      ]
    ]

-- no change is above what could move
pub change-limit : (place first second change limit : ℕ → ℕ) (count column : ℕ) → IsPlacing place count → IsMovedInOrder place first second change count column → ((i : ℕ) → first i ≤ limit i)
    → ((i : ℕ) → second i ≤ limit i) → (i : ℕ) → i < count → change i ≤ limit i
change-limit place first second change limit count column placing order first_le second_le i below =
    let first_here : first i ≤ limit i = first_le i in
    let second_here : second i ≤ limit i = second_le i in
    elim (cases_order (place i) (place column)) [
      | inl same ↦
          let is : i ≡ column = placing i column below order.inside same in
          let P : ℕ → Type 0 = λ (k : ℕ). change k ≤ second k in
          let here : change i ≤ second i = subst P (sym is) order.at_most in omega arith
      | inr apart ↦ elim apart [
        | inl before ↦ let all : change i ≡ second i = order.before i below before in omega arith
        | inr behind ↦ let none : change i ≡ first i = order.behind i below behind in omega arith
      ]
    ]

-- ---- sums

-- at the end of the numbers a column gives all that it has above its least
whole-moves : (rule : Rule) → Takes rule → (w l : ℕ) → w < 2 ^ 64 → moved rule (2 ^ 64) w l ≡ w - l
whole-moves Turns takes w l fits = omega arith
whole-moves Widest takes w l fits = omega arith
whole-moves Narrowest takes w l fits = narrow-moves (2 ^ 64) w l fits
whole-moves Raised takes w l fits = absurd takes
whole-moves Shared takes w l fits = absurd takes

gaps-moves : (rule : Rule) → Takes rule → (least widths : List ℕ) → sum widths < 2 ^ 64 → moved_sum rule (2 ^ 64) least widths ≡ gap_sum least widths
gaps-moves rule takes least widths fits =
    ap sum (map-equal (λ (i : ℕ). moved rule (2 ^ 64) (get_or widths i 0) (get_or least i 0)) (gap_of least widths) (length widths)
    (λ i below. whole-moves rule takes (get_or widths i 0) (get_or least i 0) (width-fits widths i fits)))

pub taken-sum : (rule : Rule) → Takes rule → (least : List ℕ) (by : ℕ) (widths sizes : List ℕ) → sum widths < 2 ^ 64 → sum sizes + amount_of rule least by widths ≡ sum widths
    → (sum sizes ≡ shrunk_sum least widths by) × (sum widths ≤ sum sizes + by)
taken-sum rule takes least by widths sizes fits sums =
    let room : moved_sum rule (2 ^ 64) least widths ≡ gap_sum least widths = gaps-moves rule takes least widths fits in
    let parts : sum (floors least widths) + gap_sum least widths ≡ sum widths = floors-gaps least widths in
    (omega arith, omega arith)

pub taken-between : (rule : Rule) → Takes rule → (place : ℕ → ℕ) (least : List ℕ) (by : ℕ) (widths sizes : List ℕ) (last : Option ℕ) → IsPlacing place (length widths) → IsTaken rule place least by widths sizes last → StaysBetween least widths sizes
taken-between rule takes place least by widths sizes None placing taken = λ i below.
    let le : get_or sizes i 0 ≤ get_or widths i 0 = taken.lower i below in
    let none = taken.taken in
    let same : get_or widths i 0 - get_or sizes i 0 ≡ 0 = none.1 i below in
    (omega arith, omega arith)
taken-between rule takes place least by widths sizes (Some column) placing taken = λ i below.
    let le : get_or sizes i 0 ≤ get_or widths i 0 = taken.lower i below in
    let moves = taken.taken in
    let limit : get_or widths i 0 - get_or sizes i 0 ≤ get_or widths i 0 - get_or least i 0 =
    change-limit place (λ (j : ℕ). moved rule moves.0 (get_or widths j 0) (get_or least j 0)) (λ (j : ℕ). moved rule (moves.0 + 1) (get_or widths j 0) (get_or least j 0))
    (λ (j : ℕ). get_or widths j 0 - get_or sizes j 0) (gap_of least widths) (length widths) column placing moves.1
    (λ j. taken-limit rule takes moves.0 (get_or widths j 0) (get_or least j 0)) (λ j. taken-limit rule takes (moves.0 + 1) (get_or widths j 0) (get_or least j 0)) i below in
    (omega arith, omega arith)

-- ---- in turns

turn-size : (n c k w l s : ℕ) → s ≤ w → ((k < c) × (w - s ≡ min (w - l) (n + 1))) ⊎ ((c ≤ k) × (w - s ≡ min (w - l) n)) → s ≡ size_in_turns n c k w l
turn-size n c k w l s le (inl before) = elim (size-cases n c k w l) [
  | inl is ↦ let given : w - s ≡ min (w - l) (n + 1) = before.1 in let form : size_in_turns n c k w l ≡ w - min (w - l) (n + 1) = is.1 in omega arith
  | inr never ↦ absurd (let one : k < c = before.0 in let other : c ≤ k = never.0 in omega arith)
]
turn-size n c k w l s le (inr behind) = elim (size-cases n c k w l) [
  | inl never ↦ absurd (let one : c ≤ k = behind.0 in let other : k < c = never.0 in omega arith)
  | inr is ↦ let given : w - s ≡ min (w - l) n = behind.1 in let form : size_in_turns n c k w l ≡ w - min (w - l) n = is.1 in omega arith
]

pub turns-taken : (place : ℕ → ℕ) (least : List ℕ) (by : ℕ) (widths sizes : List ℕ) (last : Option ℕ) → IsPlacing place (length widths) → sum widths < 2 ^ 64 → length sizes ≡ length widths
    → IsTaken Turns place least by widths sizes last → IsOfForm (shrunk_in_turns place least widths) (shrunk_sum least widths by) sizes
turns-taken place least by widths sizes None placing fits size taken =
    let sums = taken-sum Turns tt least by widths sizes fits taken.sums in
    let none = taken.taken in
    record {
      number = 0;
      column = 0;
      sums = sums.0;
      formed = from_columns (λ (i : ℕ). size_in_turns 0 0 (place i) (get_or widths i 0) (get_or least i 0)) (length widths) sizes size
          (λ i below.
          let same : get_or widths i 0 - get_or sizes i 0 ≡ 0 = none.1 i below in
          turn-size 0 0 (place i) (get_or widths i 0) (get_or least i 0) (get_or sizes i 0) (taken.lower i below) (inr (omega arith, omega arith)));
    }
turns-taken place least by widths sizes (Some column) placing fits size taken =
    let sums = taken-sum Turns tt least by widths sizes fits taken.sums in
    let moves = taken.taken in
    record {
      number = moves.0;
      column = place column + 1;
      sums = sums.0;
      formed = from_columns (λ (i : ℕ). size_in_turns moves.0 (place column + 1) (place i) (get_or widths i 0) (get_or least i 0)) (length widths) sizes size
          (λ i below. turn-size moves.0 (place column + 1) (place i) (get_or widths i 0) (get_or least i 0) (get_or sizes i 0) (taken.lower i below)
          (unit-cases place (λ (j : ℕ). moved Turns moves.0 (get_or widths j 0) (get_or least j 0)) (λ (j : ℕ). moved Turns (moves.0 + 1) (get_or widths j 0) (get_or least j 0))
          (λ (j : ℕ). get_or widths j 0 - get_or sizes j 0) (length widths) column placing moves.1 (omega arith) i below));
    }

-- where the turns end
pub turns-end : (place first second change : ℕ → ℕ) (count column n : ℕ) → IsPlacing place count → IsMovedInOrder place first second change count column → ((i : ℕ) → first i ≤ n) → ((i : ℕ) → second i ≤ n + 1)
    → (second column ≤ first column + 1) → n < second column → (before after : ℕ) → after ≡ column + 1 → GoesOnAfter place change count before after
turns-end place first second change count column n placing order first_le second_le one full before after is =
    let more : first column < change column = order.more in
    let at_most : change column ≤ second column = order.at_most in
    let whole : second column ≤ n + 1 = second_le column in
    let here : change column ≡ n + 1 = omega arith in
    inr (
      column,
      record {
        inside = order.inside;
        changed = omega arith;
        most = λ i below.
            let first_here : first i ≤ n = first_le i in
            let second_here : second i ≤ n + 1 = second_le i in
            elim (unit-cases place first second change count column placing order one i below) [
              | inl is_second ↦ let e : change i ≡ second i = is_second.1 in omega arith
              | inr is_first ↦ let e : change i ≡ first i = is_first.1 in omega arith
            ];
        last = λ i below same.
            let first_here : first i ≤ n = first_le i in
            elim (unit-cases place first second change count column placing order one i below) [
              | inl is_second ↦ let earlier : place i < place column + 1 = is_second.0 in omega arith
              | inr is_first ↦ let e : change i ≡ first i = is_first.1 in absurd (omega arith)
            ];
      },
      is,
    )

pub turns-go-on : (place : ℕ → ℕ) (least : List ℕ) (by : ℕ) (widths sizes : List ℕ) (last : Option ℕ) (before after : ℕ) → IsPlacing place (length widths) → IsTaken Turns place least by widths sizes last
    → MatchOption last (after ≡ before) (λ column. after ≡ column + 1) → GoesOnAfter place (λ column. get_or widths column 0 - get_or sizes column 0) (length widths) before after
turns-go-on place least by widths sizes None before after placing taken is = let none = taken.taken in inl (none.1, is)
turns-go-on place least by widths sizes (Some column) before after placing taken is =
    let moves = taken.taken in
    let order = moves.1 in
    let more : min (get_or widths column 0 - get_or least column 0) moves.0 < get_or widths column 0 - get_or sizes column 0 = order.more in
    let at_most : get_or widths column 0 - get_or sizes column 0 ≤ min (get_or widths column 0 - get_or least column 0) (moves.0 + 1) = order.at_most in
    turns-end place (λ (j : ℕ). moved Turns moves.0 (get_or widths j 0) (get_or least j 0)) (λ (j : ℕ). moved Turns (moves.0 + 1) (get_or widths j 0) (get_or least j 0))
    (λ (j : ℕ). get_or widths j 0 - get_or sizes j 0) (length widths) column moves.0 placing order (λ i. omega arith) (λ i. omega arith) (omega arith) (omega arith) before after is

-- ---- to a level

cut-cases : (level c k w l : ℕ) → ((k < c) × (size_at_level level c k w l ≡ max (min w l) (min w (level - 1)))) ⊎ ((c ≤ k) × (size_at_level level c k w l ≡ max (min w l) (min w level)))
cut-cases level c k w l = elim (cases_lt k c) [ inl before ↦ inl (before, grind (arith, nat_tests)) | inr behind ↦ inr (behind, grind (arith, nat_tests)) ]

cut-size : (n c k w l s level : ℕ) → level ≡ 2 ^ 64 - 1 - n → s ≤ w → ((k < c) × (w - s ≡ min (w - l) (w - (2 ^ 64 - 1 - (n + 1))))) ⊎ ((c ≤ k) × (w - s ≡ min (w - l) (w - (2 ^ 64 - 1 - n))))
    → s ≡ size_at_level level c k w l
cut-size n c k w l s level is le (inl before) = elim (cut-cases level c k w l) [
  | inl form ↦ let given : w - s ≡ min (w - l) (w - (2 ^ 64 - 1 - (n + 1))) = before.1 in let e : size_at_level level c k w l ≡ max (min w l) (min w (level - 1)) = form.1 in omega arith
  | inr never ↦ absurd (let one : k < c = before.0 in let other : c ≤ k = never.0 in omega arith)
]
cut-size n c k w l s level is le (inr behind) = elim (cut-cases level c k w l) [
  | inl never ↦ absurd (let one : c ≤ k = behind.0 in let other : k < c = never.0 in omega arith)
  | inr form ↦ let given : w - s ≡ min (w - l) (w - (2 ^ 64 - 1 - n)) = behind.1 in let e : size_at_level level c k w l ≡ max (min w l) (min w level) = form.1 in omega arith
]

pub widest-taken : (place : ℕ → ℕ) (least : List ℕ) (by : ℕ) (widths sizes : List ℕ) (last : Option ℕ) → IsPlacing place (length widths) → sum widths < 2 ^ 64 → length sizes ≡ length widths
    → IsTaken Widest place least by widths sizes last → IsOfForm (shrunk_to_level place least widths) (shrunk_sum least widths by) sizes
widest-taken place least by widths sizes None placing fits size taken =
    let sums = taken-sum Widest tt least by widths sizes fits taken.sums in
    let none = taken.taken in
    record {
      number = 2 ^ 64 - 1;
      column = 0;
      sums = sums.0;
      formed = from_columns (λ (i : ℕ). size_at_level (2 ^ 64 - 1) 0 (place i) (get_or widths i 0) (get_or least i 0)) (length widths) sizes size
          (λ i below.
          let same : get_or widths i 0 - get_or sizes i 0 ≡ 0 = none.1 i below in
          let fits_here : get_or widths i 0 < 2 ^ 64 = width-fits widths i fits in
          cut-size 0 0 (place i) (get_or widths i 0) (get_or least i 0) (get_or sizes i 0) (2 ^ 64 - 1) (omega arith) (taken.lower i below) (inr (omega arith, omega arith)));
    }
widest-taken place least by widths sizes (Some column) placing fits size taken =
    let sums = taken-sum Widest tt least by widths sizes fits taken.sums in
    let moves = taken.taken in
    let level : ℕ = 2 ^ 64 - 1 - moves.0 in
    record {
      number = level;
      column = place column + 1;
      sums = sums.0;
      formed = from_columns (λ (i : ℕ). size_at_level level (place column + 1) (place i) (get_or widths i 0) (get_or least i 0)) (length widths) sizes size
          (λ i below. cut-size moves.0 (place column + 1) (place i) (get_or widths i 0) (get_or least i 0) (get_or sizes i 0) level refl (taken.lower i below)
          (unit-cases place (λ (j : ℕ). moved Widest moves.0 (get_or widths j 0) (get_or least j 0)) (λ (j : ℕ). moved Widest (moves.0 + 1) (get_or widths j 0) (get_or least j 0))
          (λ (j : ℕ). get_or widths j 0 - get_or sizes j 0) (length widths) column placing moves.1 (omega arith) i below));
    }

-- ---- in order

order-cases : (given c k w l : ℕ)
    → ((k < c) × (size_in_order given c k w l ≡ min w l)) ⊎ (((k ≡ c) × (size_in_order given c k w l ≡ w - min (w - l) given)) ⊎ ((c < k) × (size_in_order given c k w l ≡ w)))
order-cases given c k w l = elim (cases_order k c) [
  | inl same ↦ inr (inl (same, grind (arith, nat_tests)))
  | inr apart ↦ elim apart [ inl before ↦ inl (before, grind (arith, nat_tests)) | inr behind ↦ inr (inr (behind, grind (arith, nat_tests))) ]
]

order-size : (given c k w l s : ℕ) → s ≤ w → ((k < c) × (w - s ≡ w - l)) ⊎ (((k ≡ c) × (w - s ≡ given) × (given ≤ w - l)) ⊎ ((c < k) × (w - s ≡ 0))) → s ≡ size_in_order given c k w l
order-size given c k w l s le cases = elim (order-cases given c k w l) [
  | inl before ↦
      let form : size_in_order given c k w l ≡ min w l = before.1 in let at : k < c = before.0 in
      elim cases [
        | inl is ↦ let e : w - s ≡ w - l = is.1 in omega arith
        | inr others ↦ absurd (elim others [ inl never ↦ let other : k ≡ c = never.0 in omega arith | inr never ↦ let other : c < k = never.0 in omega arith ])
      ]
  | inr not_before ↦ elim not_before [
    | inl at ↦
        let form : size_in_order given c k w l ≡ w - min (w - l) given = at.1 in let here : k ≡ c = at.0 in
        elim cases [
          | inl never ↦ absurd (let other : k < c = never.0 in omega arith)
          | inr others ↦ elim others [
            | inl is ↦ let e : w - s ≡ given = is.1 in let most : given ≤ w - l = is.2 in omega arith
            | inr never ↦ absurd (let other : c < k = never.0 in omega arith)
          ]
        ]
    | inr behind ↦
        let form : size_in_order given c k w l ≡ w = behind.1 in let at : c < k = behind.0 in
        elim cases [
          | inl never ↦ absurd (let other : k < c = never.0 in omega arith)
          | inr others ↦ elim others [
            | inl never ↦ absurd (let other : k ≡ c = never.0 in omega arith)
            | inr is ↦ let e : w - s ≡ 0 = is.1 in omega arith
          ]
        ]
  ]
]

-- the columns before one give all, it gives some, and those after it nothing
order-formed : (place change : ℕ → ℕ) (least widths sizes : List ℕ) (total column : ℕ) → IsPlacing place (length widths) → length sizes ≡ length widths → sum sizes ≡ total → column < length widths
    → ((i : ℕ) → i < length widths → get_or sizes i 0 ≤ get_or widths i 0) → ((i : ℕ) → change i ≡ get_or widths i 0 - get_or sizes i 0)
    → change column ≤ gap_of least widths column
    → ((i : ℕ) → i < length widths → place i < place column → change i ≡ gap_of least widths i)
    → ((i : ℕ) → i < length widths → place column < place i → change i ≡ 0)
    → IsOfForm (shrunk_in_order place least widths) total sizes
order-formed place change least widths sizes total column placing size sums inside lower is most before behind =
    record {
      number = change column;
      column = place column;
      sums = sums;
      formed = from_columns (λ (i : ℕ). size_in_order (change column) (place column) (place i) (get_or widths i 0) (get_or least i 0)) (length widths) sizes size
          (λ i below.
          let here : change i ≡ get_or widths i 0 - get_or sizes i 0 = is i in
          order-size (change column) (place column) (place i) (get_or widths i 0) (get_or least i 0) (get_or sizes i 0) (lower i below)
          (elim (cases_order (place i) (place column)) [
            | inl same ↦
                let at : i ≡ column = placing i column below inside same in
                let P : ℕ → Type 0 = λ (k : ℕ). (change k ≡ change column) × (change k ≤ gap_of least widths k) in
                let found : (change i ≡ change column) × (change i ≤ gap_of least widths i) = subst P (sym at) (refl, most) in
                let one : change i ≡ change column = found.0 in
                let other : change i ≤ gap_of least widths i = found.1 in
                inr (inl (same, omega arith, omega arith))
            | inr apart ↦ elim apart [
              | inl earlier ↦ let all : change i ≡ gap_of least widths i = before i below earlier in inl (earlier, omega arith)
              | inr later ↦ let none : change i ≡ 0 = behind i below later in inr (inr (later, omega arith))
            ]
          ]));
    }

same-sizes : (widths sizes : List ℕ) → length sizes ≡ length widths → ((i : ℕ) → i < length widths → get_or sizes i 0 ≡ get_or widths i 0) → sizes ≡ widths
same-sizes widths sizes size same = from_columns (λ (i : ℕ). get_or widths i 0) (length widths) sizes size same ∙ sym (from_columns (λ (i : ℕ). get_or widths i 0) (length widths) widths refl (λ i below. refl))

nothing-taken : (place : ℕ → ℕ) (least widths sizes : List ℕ) (total : ℕ) → sizes ≡ widths → sum sizes ≡ total → IsOfForm (shrunk_in_order place least widths) total sizes
nothing-taken place least widths sizes total same sums =
    let P : List ℕ → Type 0 = IsOfForm (shrunk_in_order place least widths) total in
    subst P (sym same) (order-form place least widths widths total refl (order-start place least widths) (sym (ap sum same) ∙ sums))

pub side-taken : (place : ℕ → ℕ) (least : List ℕ) (by : ℕ) (widths sizes : List ℕ) (last : Option ℕ) → IsPlacing place (length widths) → sum widths < 2 ^ 64 → length sizes ≡ length widths
    → IsTakenWhole place least by widths sizes last → IsOfForm (shrunk_in_order place least widths) (shrunk_sum least widths by) sizes
side-taken place least by widths sizes None placing fits size taken =
    let sums = taken-sum Narrowest tt least by widths sizes fits taken.sums in
    nothing-taken place least widths sizes (shrunk_sum least widths by) (same-sizes widths sizes size taken.taken) sums.0
side-taken place least by widths sizes (Some column) placing fits size taken =
    let sums = taken-sum Narrowest tt least by widths sizes fits taken.sums in
    let order = taken.taken in
    order-formed place (λ (i : ℕ). get_or widths i 0 - get_or sizes i 0) least widths sizes (shrunk_sum least widths by) column placing size sums.0 order.inside taken.lower (λ i. refl) order.at_most
    order.before order.behind

pub side-between : (place : ℕ → ℕ) (least : List ℕ) (by : ℕ) (widths sizes : List ℕ) (last : Option ℕ) → IsPlacing place (length widths) → IsTakenWhole place least by widths sizes last → StaysBetween least widths sizes
side-between place least by widths sizes None placing taken = λ i below.
    let le : get_or sizes i 0 ≤ get_or widths i 0 = taken.lower i below in
    let same : get_or sizes i 0 ≡ get_or widths i 0 = taken.taken i below in
    (omega arith, omega arith)
side-between place least by widths sizes (Some column) placing taken = λ i below.
    let le : get_or sizes i 0 ≤ get_or widths i 0 = taken.lower i below in
    let limit : get_or widths i 0 - get_or sizes i 0 ≤ get_or widths i 0 - get_or least i 0 =
    change-limit place (λ (j : ℕ). 0) (gap_of least widths) (λ (j : ℕ). get_or widths j 0 - get_or sizes j 0) (gap_of least widths) (length widths) column placing taken.taken (λ j. omega arith) (λ j. omega arith) i below in
    (omega arith, omega arith)

-- what goes first by its width, and what the rule of the narrowest moves there
narrow-order : (right : Bool) (least widths sizes : List ℕ) (number column : ℕ) → length sizes ≡ length widths
    → IsMovedInOrder (from_side right (length widths)) (λ (j : ℕ). moved Narrowest number (get_or widths j 0) (get_or least j 0)) (λ (j : ℕ). moved Narrowest (number + 1) (get_or widths j 0) (get_or least j 0))
    (λ (j : ℕ). get_or widths j 0 - get_or sizes j 0) (length widths) column
    → (get_or widths column 0 ≡ number) × (0 < gap_of least widths column)
narrow-order right least widths sizes number column size order =
    let w : ℕ = get_or widths column 0 in
    let l : ℕ = get_or least column 0 in
    let more : moved Narrowest number w l < w - get_or sizes column 0 = order.more in
    let at_most : w - get_or sizes column 0 ≤ moved Narrowest (number + 1) w l = order.at_most in
    elim (cases_lt w number) [
      | inl narrow ↦
          let now : moved Narrowest number w l ≡ w - l = narrow-moves number w l narrow in
          let next : moved Narrowest (number + 1) w l ≡ w - l = narrow-moves (number + 1) w l (omega arith) in
          absurd (omega arith)
      | inr not_narrow ↦ elim (cases_lt w (number + 1)) [
        | inl here ↦ let next : moved Narrowest (number + 1) w l ≡ w - l = narrow-moves (number + 1) w l here in (omega arith, omega arith)
        | inr wide ↦ let next : moved Narrowest (number + 1) w l ≡ 0 = wide-stays (number + 1) w l wide in absurd (omega arith)
      ]
    ]

pub narrowest-taken : (right : Bool) (least : List ℕ) (by : ℕ) (widths sizes : List ℕ) (last : Option ℕ) → sum widths < 2 ^ 64 → length sizes ≡ length widths
    → IsTaken Narrowest (from_side right (length widths)) least by widths sizes last → IsOfForm (shrunk_in_order (by_width right widths) least widths) (shrunk_sum least widths by) sizes
narrowest-taken right least by widths sizes None fits size taken =
    let sums = taken-sum Narrowest tt least by widths sizes fits taken.sums in
    let none = taken.taken in
    nothing-taken (by_width right widths) least widths sizes (shrunk_sum least widths by)
    (same-sizes widths sizes size (λ i below.
    let le : get_or sizes i 0 ≤ get_or widths i 0 = taken.lower i below in
    let same : get_or widths i 0 - get_or sizes i 0 ≡ 0 = none.1 i below in omega arith)) sums.0
narrowest-taken right least by widths sizes (Some column) fits size taken =
    let sums = taken-sum Narrowest tt least by widths sizes fits taken.sums in
    let moves = taken.taken in
    let n : ℕ = moves.0 in
    let order = moves.1 in
    let place : ℕ → ℕ = from_side right (length widths) in
    let inside : column < length widths = order.inside in
    let found : (get_or widths column 0 ≡ n) × (0 < gap_of least widths column) = narrow-order right least widths sizes n column size order in
    let at : get_or widths column 0 ≡ n = found.0 in
    let change : ℕ → ℕ = λ (i : ℕ). get_or widths i 0 - get_or sizes i 0 in
    let whole : moved Narrowest (n + 1) (get_or widths column 0) (get_or least column 0) ≡ gap_of least widths column = narrow-moves (n + 1) (get_or widths column 0) (get_or least column 0) (omega arith) in
    let at_most : change column ≤ moved Narrowest (n + 1) (get_or widths column 0) (get_or least column 0) = order.at_most in
    order-formed (by_width right widths) change least widths sizes (shrunk_sum least widths by) column (width-placing right widths) size sums.0 inside taken.lower (λ i. refl) (omega arith)
    (λ i below earlier. elim (by_width-first right widths i column below inside earlier) [
      | inl narrower ↦
          let now : moved Narrowest n (get_or widths i 0) (get_or least i 0) ≡ gap_of least widths i = narrow-moves n (get_or widths i 0) (get_or least i 0) (omega arith) in
          let next : moved Narrowest (n + 1) (get_or widths i 0) (get_or least i 0) ≡ gap_of least widths i = narrow-moves (n + 1) (get_or widths i 0) (get_or least i 0) (omega arith) in
          elim (cases_order (place i) (place column)) [
            | inl same ↦ absurd (let is : i ≡ column = side-placing right (length widths) i column below inside same in let e : get_or widths i 0 ≡ get_or widths column 0 = ap (λ (k : ℕ). get_or widths k 0) is in omega arith)
            | inr apart ↦ elim apart [ inl before ↦ order.before i below before ∙ next | inr behind ↦ order.behind i below behind ∙ now ]
          ]
      | inr nearer ↦
          let tie : get_or widths i 0 ≡ get_or widths column 0 = nearer.0 in
          order.before i below nearer.1 ∙ narrow-moves (n + 1) (get_or widths i 0) (get_or least i 0) (omega arith)
    ])
    (λ i below later. elim (by_width-first right widths column i inside below later) [
      | inl wider ↦
          let now : moved Narrowest n (get_or widths i 0) (get_or least i 0) ≡ 0 = wide-stays n (get_or widths i 0) (get_or least i 0) (omega arith) in
          let next : moved Narrowest (n + 1) (get_or widths i 0) (get_or least i 0) ≡ 0 = wide-stays (n + 1) (get_or widths i 0) (get_or least i 0) (omega arith) in
          elim (cases_order (place i) (place column)) [
            | inl same ↦ absurd (let is : i ≡ column = side-placing right (length widths) i column below inside same in let e : get_or widths i 0 ≡ get_or widths column 0 = ap (λ (k : ℕ). get_or widths k 0) is in omega arith)
            | inr apart ↦ elim apart [ inl before ↦ order.before i below before ∙ next | inr behind ↦ order.behind i below behind ∙ now ]
          ]
      | inr farther ↦
          let tie : get_or widths column 0 ≡ get_or widths i 0 = farther.0 in
          order.behind i below farther.1 ∙ wide-stays n (get_or widths i 0) (get_or least i 0) (omega arith)
    ])

-- ---- growing

raise-size : (n c k w s : ℕ) → w ≤ s → ((k < c) × (s - w ≡ n + 1 - w)) ⊎ ((c ≤ k) × (s - w ≡ n - w)) → s ≡ raised_to_level n c k w
raise-size n c k w s le (inl before) = elim (cases-of n c k w) [
  | inl is ↦ let got : s - w ≡ n + 1 - w = before.1 in let form : raised_to_level n c k w ≡ max w (n + 1) = is.1 in omega arith
  | inr never ↦ absurd (let one : k < c = before.0 in let other : c ≤ k = never.0 in omega arith)
]
raise-size n c k w s le (inr behind) = elim (cases-of n c k w) [
  | inl never ↦ absurd (let one : c ≤ k = behind.0 in let other : k < c = never.0 in omega arith)
  | inr is ↦ let got : s - w ≡ n - w = behind.1 in let form : raised_to_level n c k w ≡ max w n = is.1 in omega arith
]

raised-form : (place : ℕ → ℕ) (by : ℕ) (widths sizes : List ℕ) (last : Option ℕ) → IsPlacing place (length widths) → length sizes ≡ length widths
    → IsGiven Raised place by widths sizes last → sum sizes ≡ sum widths + by → IsOfForm (grown_to_level place widths) (sum widths + by) sizes
raised-form place by widths sizes None placing size given sums =
    let none = given.given in
    record {
      number = 0;
      column = 0;
      sums = sums;
      formed = from_columns (λ (i : ℕ). raised_to_level 0 0 (place i) (get_or widths i 0)) (length widths) sizes size
          (λ i below.
          let same : get_or sizes i 0 - get_or widths i 0 ≡ 0 = none.1 i below in
          raise-size 0 0 (place i) (get_or widths i 0) (get_or sizes i 0) (given.higher i below) (inr (omega arith, omega arith)));
    }
raised-form place by widths sizes (Some column) placing size given sums =
    let moves = given.given in
    record {
      number = moves.0;
      column = place column + 1;
      sums = sums;
      formed = from_columns (λ (i : ℕ). raised_to_level moves.0 (place column + 1) (place i) (get_or widths i 0)) (length widths) sizes size
          (λ i below. raise-size moves.0 (place column + 1) (place i) (get_or widths i 0) (get_or sizes i 0) (given.higher i below)
          (unit-cases place (λ (j : ℕ). moves.0 - get_or widths j 0) (λ (j : ℕ). moves.0 + 1 - get_or widths j 0)
          (λ (j : ℕ). get_or sizes j 0 - get_or widths j 0) (length widths) column placing moves.1 (omega arith) i below));
    }

pub raised-given : (place : ℕ → ℕ) (by : ℕ) (widths sizes : List ℕ) (last : Option ℕ) → IsPlacing place (length widths) → sum widths + by < 2 ^ 64 → 0 < length widths → length sizes ≡ length widths
    → IsGiven Raised place by widths sizes last → IsOfForm (grown_to_level place widths) (sum widths + by) sizes
raised-given place by widths sizes last placing fits some size given =
    let widest : get_or widths 0 0 ≤ sum widths = get_or-le-sum_by (λ (x : ℕ). x) widths 0 0 some in
    let room : 2 ^ 64 - get_or widths 0 0 ≤ moved_sum Raised (2 ^ 64) [] widths = one-of-all (λ (i : ℕ). 2 ^ 64 - get_or widths i 0) widths 0 some in
    let sums : sum sizes ≡ sum widths + amount_of Raised [] by widths = given.sums in
    raised-form place by widths sizes last placing size given (omega arith)

share-size : (n c k w s : ℕ) → w ≤ s → ((k < c) × (s - w ≡ moved Shared (n + 1) w 0)) ⊎ ((c ≤ k) × (s - w ≡ moved Shared n w 0)) → s ≡ size_grown_in_turns n c k w
share-size n c k w s le cases = elim (grown-cases n c k w) [
  | inl none ↦
      let empty : w ≡ 0 = none.0 in
      let form : size_grown_in_turns n c k w ≡ 0 = none.1 in
      let now : moved Shared n w 0 ≡ 0 = none-shared n w 0 empty in
      let next : moved Shared (n + 1) w 0 ≡ 0 = none-shared (n + 1) w 0 empty in
      elim cases [ inl is ↦ let e : s - w ≡ moved Shared (n + 1) w 0 = is.1 in omega arith | inr is ↦ let e : s - w ≡ moved Shared n w 0 = is.1 in omega arith ]
  | inr some ↦
      let now : moved Shared n w 0 ≡ n = some-shared n w 0 some.0 in
      let next : moved Shared (n + 1) w 0 ≡ n + 1 = some-shared (n + 1) w 0 some.0 in
      elim cases [
        | inl is ↦ let e : s - w ≡ moved Shared (n + 1) w 0 = is.1 in elim some.1 [
          | inl form ↦ let f : size_grown_in_turns n c k w ≡ w + (n + 1) = form.1 in omega arith
          | inr never ↦ absurd (let one : k < c = is.0 in let other : c ≤ k = never.0 in omega arith)
        ]
        | inr is ↦ let e : s - w ≡ moved Shared n w 0 = is.1 in elim some.1 [
          | inl never ↦ absurd (let one : c ≤ k = is.0 in let other : k < c = never.0 in omega arith)
          | inr form ↦ let f : size_grown_in_turns n c k w ≡ w + n = form.1 in omega arith
        ]
      ]
]

shared-limit : (n w : ℕ) → moved Shared n w 0 ≤ n
shared-limit n w = elim (cases_lt 0 w) [ inl some ↦ let e : moved Shared n w 0 ≡ n = some-shared n w 0 some in omega arith | inr none ↦ let e : moved Shared n w 0 ≡ 0 = none-shared n w 0 (omega arith) in omega arith ]

shared-one : (n w : ℕ) → moved Shared (n + 1) w 0 ≤ moved Shared n w 0 + 1
shared-one n w = elim (cases_lt 0 w) [
  | inl some ↦ let e : moved Shared n w 0 ≡ n = some-shared n w 0 some in let f : moved Shared (n + 1) w 0 ≡ n + 1 = some-shared (n + 1) w 0 some in omega arith
  | inr none ↦ let e : moved Shared n w 0 ≡ 0 = none-shared n w 0 (omega arith) in let f : moved Shared (n + 1) w 0 ≡ 0 = none-shared (n + 1) w 0 (omega arith) in omega arith
]

shared-form : (place : ℕ → ℕ) (by : ℕ) (widths sizes : List ℕ) (last : Option ℕ) → IsPlacing place (length widths) → length sizes ≡ length widths
    → IsGiven Shared place by widths sizes last → sum sizes ≡ sum widths + by → IsOfForm (grown_in_turns place widths) (sum widths + by) sizes
shared-form place by widths sizes None placing size given sums =
    let none = given.given in
    record {
      number = 0;
      column = 0;
      sums = sums;
      formed = from_columns (λ (i : ℕ). size_grown_in_turns 0 0 (place i) (get_or widths i 0)) (length widths) sizes size
          (λ i below.
          let same : get_or sizes i 0 - get_or widths i 0 ≡ 0 = none.1 i below in
          let zero_there : moved Shared 0 (get_or widths i 0) 0 ≤ 0 = shared-limit 0 (get_or widths i 0) in
          share-size 0 0 (place i) (get_or widths i 0) (get_or sizes i 0) (given.higher i below) (inr (omega arith, omega arith)));
    }
shared-form place by widths sizes (Some column) placing size given sums =
    let moves = given.given in
    record {
      number = moves.0;
      column = place column + 1;
      sums = sums;
      formed = from_columns (λ (i : ℕ). size_grown_in_turns moves.0 (place column + 1) (place i) (get_or widths i 0)) (length widths) sizes size
          (λ i below. share-size moves.0 (place column + 1) (place i) (get_or widths i 0) (get_or sizes i 0) (given.higher i below)
          (unit-cases place (λ (j : ℕ). moved Shared moves.0 (get_or widths j 0) 0) (λ (j : ℕ). moved Shared (moves.0 + 1) (get_or widths j 0) 0)
          (λ (j : ℕ). get_or sizes j 0 - get_or widths j 0) (length widths) column placing moves.1 (shared-one moves.0 (get_or widths column 0)) i below));
    }

nothing-shared : (widths : List ℕ) (n : ℕ) → ((i : ℕ) → i < length widths → get_or widths i 0 ≡ 0) → moved_sum Shared n [] widths ≡ moved_sum Shared 0 [] widths
nothing-shared widths n none =
    ap sum (map-equal (λ (i : ℕ). moved Shared n (get_or widths i 0) 0) (λ (i : ℕ). moved Shared 0 (get_or widths i 0) 0) (length widths)
    (λ i below. none-shared n (get_or widths i 0) 0 (none i below) ∙ sym (none-shared 0 (get_or widths i 0) 0 (none i below))))

pub shared-given : (start by : ℕ) (widths sizes : List ℕ) (last : Option ℕ) → IsPlacing (from_column start (length widths)) (length widths) → sum widths + by < 2 ^ 64 → length sizes ≡ length widths
    → IsGiven Shared (from_column start (length widths)) by widths sizes last → IsGrownInTurns start by widths sizes
shared-given start by widths sizes last placing fits size given = record {
  nothing = λ none.
      let never : moved_sum Shared (2 ^ 64) [] widths ≡ moved_sum Shared 0 [] widths = nothing-shared widths (2 ^ 64) none in
      let zero_sum : moved_sum Shared 0 [] widths ≡ 0 = none-moved Shared [] widths (omega arith) in
      let sums : sum sizes ≡ sum widths + amount_of Shared [] by widths = given.sums in
      sym (sum-same widths sizes (sym size) given.higher (omega arith));
  turns = λ some.
      let one : 0 < get_or widths some.0 0 = some.2 in
      let at : moved Shared (2 ^ 64) (get_or widths some.0 0) 0 ≡ 2 ^ 64 = some-shared (2 ^ 64) (get_or widths some.0 0) 0 one in
      let room : moved Shared (2 ^ 64) (get_or widths some.0 0) 0 ≤ moved_sum Shared (2 ^ 64) [] widths = one-of-all (λ (i : ℕ). moved Shared (2 ^ 64) (get_or widths i 0) 0) widths some.0 some.1 in
      let sums : sum sizes ≡ sum widths + amount_of Shared [] by widths = given.sums in
      shared-form (from_column start (length widths)) by widths sizes last placing size given (omega arith);
}

pub shared-go-on : (place : ℕ → ℕ) (by : ℕ) (widths sizes : List ℕ) (last : Option ℕ) (before after : ℕ) → IsPlacing place (length widths) → IsGiven Shared place by widths sizes last
    → MatchOption last (after ≡ before) (λ column. after ≡ column + 1) → GoesOnAfter place (λ column. get_or sizes column 0 - get_or widths column 0) (length widths) before after
shared-go-on place by widths sizes None before after placing given is = let none = given.given in inl (none.1, is)
shared-go-on place by widths sizes (Some column) before after placing given is =
    let moves = given.given in
    let order = moves.1 in
    let n : ℕ = moves.0 in
    let w : ℕ = get_or widths column 0 in
    let more : moved Shared n w 0 < get_or sizes column 0 - w = order.more in
    let at_most : get_or sizes column 0 - w ≤ moved Shared (n + 1) w 0 = order.at_most in
    let full : n < moved Shared (n + 1) w 0 = elim (cases_lt 0 w) [
      | inl some ↦ let e : moved Shared (n + 1) w 0 ≡ n + 1 = some-shared (n + 1) w 0 some in omega arith
      | inr none ↦ let e : moved Shared (n + 1) w 0 ≡ 0 = none-shared (n + 1) w 0 (omega arith) in absurd (omega arith)
    ] in
    turns-end place (λ (j : ℕ). moved Shared n (get_or widths j 0) 0) (λ (j : ℕ). moved Shared (n + 1) (get_or widths j 0) 0)
    (λ (j : ℕ). get_or sizes j 0 - get_or widths j 0) (length widths) column n placing order (λ i. shared-limit n (get_or widths i 0)) (λ i. shared-limit (n + 1) (get_or widths i 0)) (shared-one n w) full before after is

-- ---- rounds

start-within : (next count : ℕ) → start_of next count ≤ count
start-within next count = elim (cases_lt next count) [
  | inl inside ↦ let is : start_of next count ≡ next = grind (arith, nat_tests) in omega arith
  | inr past ↦ let is : start_of next count ≡ 0 = grind (arith, nat_tests) in omega arith
]

pub round-taken : (start : ℕ) (least : List ℕ) (by : ℕ) (widths sizes : List ℕ) (last : Option ℕ) (before after : ℕ) → start ≡ start_of before (length widths) → sum widths < 2 ^ 64 → length sizes ≡ length widths
    → IsTaken Turns (from_column start (length widths)) least by widths sizes last → MatchOption last (after ≡ before) (λ column. after ≡ column + 1) → shrinks_in_turns before least by widths after sizes
round-taken start least by widths sizes last before after begins fits size taken is =
    let At : ℕ → Type 0 = λ (first : ℕ). IsTaken Turns (from_column first (length widths)) least by widths sizes last in
    let first : ℕ = start_of before (length widths) in
    let placing : IsPlacing (from_column first (length widths)) (length widths) = column-placing first (length widths) (start-within before (length widths)) in (
      turns-taken (from_column first (length widths)) least by widths sizes last placing fits size (subst At begins taken),
      turns-go-on (from_column first (length widths)) least by widths sizes last before after placing (subst At begins taken) is,
    )

pub round-given : (start by : ℕ) (widths sizes : List ℕ) (last : Option ℕ) (before after : ℕ) → start ≡ start_of before (length widths) → sum widths + by < 2 ^ 64 → length sizes ≡ length widths
    → IsGiven Shared (from_column start (length widths)) by widths sizes last → MatchOption last (after ≡ before) (λ column. after ≡ column + 1) → grows_in_turns before by widths after sizes
round-given start by widths sizes last before after begins fits size given is =
    let At : ℕ → Type 0 = λ (first : ℕ). IsGiven Shared (from_column first (length widths)) by widths sizes last in
    let first : ℕ = start_of before (length widths) in
    let placing : IsPlacing (from_column first (length widths)) (length widths) = column-placing first (length widths) (start-within before (length widths)) in (
      shared-given first by widths sizes last placing fits size (subst At begins given),
      shared-go-on (from_column first (length widths)) by widths sizes last before after placing (subst At begins given) is,
    )

-- ---- the narrowest grows where none is 0

pub narrowest-given : (right : Bool) (by : ℕ) (widths sizes : List ℕ) (last : Option ℕ) → sum widths + by < 2 ^ 64 → length sizes ≡ length widths → ((i : ℕ) → i < length widths → 0 < get_or widths i 0)
    → IsGiven Raised (from_side right (length widths)) by widths sizes last → IsGrownByNarrowest right by widths sizes
narrowest-given right by widths sizes last fits size positive given = record {
  nothing = λ nothing. elim nothing [
    | inl empty ↦ same-sizes widths sizes size (λ i below. absurd (omega arith))
    | inr found ↦ absurd (let above : 0 < get_or widths found.0 0 = positive found.0 found.1 in let is : get_or widths found.0 0 ≡ 0 = found.2 in omega arith)
  ];
  raised = λ some each. raised-given (from_side right (length widths)) by widths sizes last (side-placing right (length widths)) fits some size given;
}
