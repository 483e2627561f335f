-- Numbers that move, places of columns, and columns that are done one after the other.
use Rattle.std.proofs.Common.{◌≡◌, ℕ, ◌+◌, ◌-◌, ◌^◌, ◌<◌, ◌≤◌, List, length, map, get_or, set, sum, refl, sym, ◌∙◌, ap, arith, true, false, inl, inr}
use Rattle.std.specs.Prelude.{◌⊎◌, Bool}
use Rattle.std.specs.List.{range_with_len}
use Rattle.std.proofs.lemmas.Bool.{cases_lt, cases_order}
use Rattle.std.proofs.lemmas.Bool.Decides.{nat_tests}
use Rattle.std.proofs.lemmas.List.FromFn.{length-map-range_with_len}
use Rattle.std.proofs.lemmas.List.Sums.{get_or-le-sum_by}
use Rattle.tabled_size_priority.specs.declared.levels.rule.Rule.{Rule}
use Rattle.tabled_size_priority.specs.declared.levels.rule.Rule.TheVariants.{Turns, Widest, Narrowest, Raised, Shared}
use Rattle.tabled_size_priority.specs.declared.levels.order.Order.{Order}
use Rattle.tabled_size_priority.specs.declared.levels.order.Order.TheVariants.{FromSide, FromColumn}
use Rattle.tabled_size_priority.specs.LevelRules.Columns.{column_numbers, from_column, from_side}
use Rattle.tabled_size_priority.specs.LevelRules.Lists.{set_cases, sum-added, from_columns, at_column}
use Rattle.tabled_size_priority.specs.LevelRules.Moving.{moved, next_of, Takes, Gives, place_of, BeginsWithin}

-- ---- what moves at a number

pub narrow-moves : (number w l : ℕ) → w < number → moved Narrowest number w l ≡ w - l
narrow-moves number w l h = grind (arith, nat_tests)

pub wide-stays : (number w l : ℕ) → number ≤ w → moved Narrowest number w l ≡ 0
wide-stays number w l h = grind (arith, nat_tests)

pub none-shared : (number w l : ℕ) → w ≡ 0 → moved Shared number w l ≡ 0
none-shared number w l h = grind (arith, nat_tests)

pub some-shared : (number w l : ℕ) → 0 < w → moved Shared number w l ≡ number
some-shared number w l h = grind (arith, nat_tests)

narrow-cases : (number w l : ℕ) → ((w < number) × (moved Narrowest number w l ≡ w - l)) ⊎ ((number ≤ w) × (moved Narrowest number w l ≡ 0))
narrow-cases number w l = elim (cases_lt w number) [ inl less ↦ inl (less, narrow-moves number w l less) | inr not ↦ inr (not, wide-stays number w l not) ]

shared-cases : (number w l : ℕ) → ((w ≡ 0) × (moved Shared number w l ≡ 0)) ⊎ ((0 < w) × (moved Shared number w l ≡ number))
shared-cases number w l = elim (cases_lt 0 w) [ inl some ↦ inr (some, some-shared number w l some) | inr none ↦ inl (omega arith, none-shared number w l (omega arith)) ]

pub moved-limit : (rule : Rule) (number w l : ℕ) → number ≤ 2 ^ 64 → w < 2 ^ 64 → moved rule number w l ≤ 2 ^ 64
moved-limit Turns number w l most fits = omega arith
moved-limit Widest number w l most fits = omega arith
moved-limit Narrowest number w l most fits = elim (narrow-cases number w l) [ inl is ↦ let e : moved Narrowest number w l ≡ w - l = is.1 in omega arith | inr is ↦ let e : moved Narrowest number w l ≡ 0 = is.1 in omega arith ]
moved-limit Raised number w l most fits = omega arith
moved-limit Shared number w l most fits = elim (shared-cases number w l) [ inl is ↦ let e : moved Shared number w l ≡ 0 = is.1 in omega arith | inr is ↦ let e : moved Shared number w l ≡ number = is.1 in omega arith ]

pub moved-zero : (rule : Rule) (w l : ℕ) → w < 2 ^ 64 → moved rule 0 w l ≡ 0
moved-zero Turns w l fits = omega arith
moved-zero Widest w l fits = omega arith
moved-zero Narrowest w l fits = wide-stays 0 w l (omega arith)
moved-zero Raised w l fits = omega arith
moved-zero Shared w l fits = elim (shared-cases 0 w l) [ inl is ↦ is.1 | inr is ↦ is.1 ]

-- no column gives more than it has above its least
pub taken-limit : (rule : Rule) → Takes rule → (number w l : ℕ) → moved rule number w l ≤ w - l
taken-limit Turns takes number w l = omega arith
taken-limit Widest takes number w l = omega arith
taken-limit Narrowest takes number w l = elim (narrow-cases number w l) [ inl is ↦ let e : moved Narrowest number w l ≡ w - l = is.1 in omega arith | inr is ↦ let e : moved Narrowest number w l ≡ 0 = is.1 in omega arith ]
taken-limit Raised takes number w l = absurd takes
taken-limit Shared takes number w l = absurd takes

-- one number further, in two steps
narrow-further : (number w l : ℕ) → moved Narrowest number w l + moved Narrowest (number + 1) (w - moved Narrowest number w l) l ≡ moved Narrowest (number + 1) w l
narrow-further number w l = elim (narrow-cases number w l) [
  | inl is ↦
      let now : moved Narrowest number w l ≡ w - l = is.1 in
      let less : w < number = is.0 in
      let further : moved Narrowest (number + 1) (w - moved Narrowest number w l) l ≡ w - moved Narrowest number w l - l = narrow-moves (number + 1) (w - moved Narrowest number w l) l (omega arith) in
      let next : moved Narrowest (number + 1) w l ≡ w - l = narrow-moves (number + 1) w l (omega arith) in
      omega arith
  | inr is ↦ let now : moved Narrowest number w l ≡ 0 = is.1 in
      let same : w - moved Narrowest number w l ≡ w = omega arith in
      let further : moved Narrowest (number + 1) (w - moved Narrowest number w l) l ≡ moved Narrowest (number + 1) w l = ap (λ (v : ℕ). moved Narrowest (number + 1) v l) same in
      omega arith
]

pub taken-further : (rule : Rule) → Takes rule → (number w l : ℕ) → moved rule number w l + moved rule (next_of rule number) (w - moved rule number w l) l ≡ moved rule (number + 1) w l
taken-further Turns takes number w l = omega arith
taken-further Widest takes number w l = omega arith
taken-further Narrowest takes number w l = narrow-further number w l
taken-further Raised takes number w l = absurd takes
taken-further Shared takes number w l = absurd takes

shared-further : (number w l : ℕ) → moved Shared number w l + moved Shared 1 (w + moved Shared number w l) l ≡ moved Shared (number + 1) w l
shared-further number w l = elim (cases_lt 0 w) [
  | inl some ↦
      let now : moved Shared number w l ≡ number = some-shared number w l some in
      let further : moved Shared 1 (w + moved Shared number w l) l ≡ 1 = some-shared 1 (w + moved Shared number w l) l (omega arith) in
      let next : moved Shared (number + 1) w l ≡ number + 1 = some-shared (number + 1) w l some in
      omega arith
  | inr none ↦
      let now : moved Shared number w l ≡ 0 = none-shared number w l (omega arith) in
      let further : moved Shared 1 (w + moved Shared number w l) l ≡ 0 = none-shared 1 (w + moved Shared number w l) l (omega arith) in
      let next : moved Shared (number + 1) w l ≡ 0 = none-shared (number + 1) w l (omega arith) in
      omega arith
]

pub given-further : (rule : Rule) → Gives rule → (number w l : ℕ) → moved rule number w l + moved rule (next_of rule number) (w + moved rule number w l) l ≡ moved rule (number + 1) w l
given-further Turns gives number w l = absurd gives
given-further Widest gives number w l = absurd gives
given-further Narrowest gives number w l = absurd gives
given-further Raised gives number w l = omega arith
given-further Shared gives number w l = shared-further number w l

-- ---- places

-- no two columns have one place
abbrev pub IsPlacing : (ℕ → ℕ) → ℕ → Type 0
IsPlacing place count = (i j : ℕ) → i < count → j < count → place i ≡ place j → i ≡ j

pub side-placing : (right : Bool) (count : ℕ) → IsPlacing (from_side right count) count
side-placing true count = λ i j i_inside j_inside same. omega arith
side-placing false count = λ i j i_inside j_inside same. same

pub from_column-after : (start count column : ℕ) → start ≤ column → from_column start count column ≡ column - start
from_column-after start count column h = grind (arith, nat_tests)

pub from_column-before : (start count column : ℕ) → column < start → from_column start count column ≡ column + count - start
from_column-before start count column h = grind (arith, nat_tests)

pub column-placing : (start count : ℕ) → start ≤ count → IsPlacing (from_column start count) count
column-placing start count start_inside i j i_inside j_inside same =
    elim (cases_lt i start) [
      | inl i_before ↦
          let at_i : from_column start count i ≡ i + count - start = from_column-before start count i i_before in
          elim (cases_lt j start) [
            | inl j_before ↦ let at_j : from_column start count j ≡ j + count - start = from_column-before start count j j_before in omega arith
            | inr j_after ↦ let at_j : from_column start count j ≡ j - start = from_column-after start count j j_after in omega arith
          ]
      | inr i_after ↦
          let at_i : from_column start count i ≡ i - start = from_column-after start count i i_after in
          elim (cases_lt j start) [
            | inl j_before ↦ let at_j : from_column start count j ≡ j + count - start = from_column-before start count j j_before in omega arith
            | inr j_after ↦ let at_j : from_column start count j ≡ j - start = from_column-after start count j j_after in omega arith
          ]
    ]

pub order-placing : (order : Order) (count : ℕ) → BeginsWithin order count → IsPlacing (place_of order count) count
order-placing (FromSide right) count begins = side-placing right count
order-placing (FromColumn start) count begins = column-placing start count begins

pub place-inside : (order : Order) (count column : ℕ) → BeginsWithin order count → column < count → place_of order count column < count
place-inside (FromSide false) count column begins inside = inside
place-inside (FromSide true) count column begins inside = omega arith
place-inside (FromColumn start) count column begins inside = elim (cases_lt column start) [
  | inl before ↦ let at : from_column start count column ≡ column + count - start = from_column-before start count column before in let most : start ≤ count = begins in omega arith
  | inr after ↦ let at : from_column start count column ≡ column - start = from_column-after start count column after in omega arith
]

-- ---- columns that are done one after the other

-- the columns at places before one are what they are to be, the others what they were
abbrev pub AreDone : (place from to : ℕ → ℕ) → ℕ → ℕ → List ℕ → Type 0
AreDone place from to count now sizes = (i : ℕ) → i < count → ((place i < now) × (get_or sizes i 0 ≡ to i)) ⊎ ((now ≤ place i) × (get_or sizes i 0 ≡ from i))

pub none-done : (place from to : ℕ → ℕ) (count : ℕ) (sizes : List ℕ) → ((i : ℕ) → i < count → get_or sizes i 0 ≡ from i) → AreDone place from to count 0 sizes
none-done place from to count sizes same = λ i below. inr (omega arith, same i below)

pub one-done : (place from to : ℕ → ℕ) (count now : ℕ) (sizes : List ℕ) (column v : ℕ) → IsPlacing place count → column < count → column < length sizes → place column ≡ now → v ≡ to column
    → AreDone place from to count now sizes → AreDone place from to count (now + 1) (set sizes column v)
one-done place from to count now sizes column v placing inside below at is done =
    let P : ℕ → ℕ → Type 0 = λ (i : ℕ) (s : ℕ). i < count → ((place i < now + 1) × (s ≡ to i)) ⊎ ((now + 1 ≤ place i) × (s ≡ from i)) in
    set_cases P sizes column v below
    (λ h. inl (omega arith, is))
    (λ i other i_below. elim (done i i_below) [
      | inl was ↦ let earlier : place i < now = was.0 in inl (omega arith, was.1)
      | inr was ↦ let later : now ≤ place i = was.0 in elim (cases_order (place i) now) [
        | inl same ↦ absurd (other (placing i column i_below inside (same ∙ sym at)))
        | inr apart ↦ elim apart [ inl less ↦ absurd (omega arith) | inr more ↦ inr (omega arith, was.1) ]
      ]
    ])

-- where all columns are done, all is taken
pub all-taken : (place amount : ℕ → ℕ) (widths sizes : List ℕ) (now : ℕ) → length sizes ≡ length widths → ((i : ℕ) → i < length widths → place i < now) → ((i : ℕ) → amount i ≤ get_or widths i 0)
    → AreDone place (λ i. get_or widths i 0) (λ i. get_or widths i 0 - amount i) (length widths) now sizes → sum sizes + sum (map amount (column_numbers widths)) ≡ sum widths
all-taken place amount widths sizes now size inside most done =
    let n : ℕ = length widths in
    let to : ℕ → ℕ = λ (i : ℕ). get_or widths i 0 - amount i in
    let sizes_are : sizes ≡ map to (range_with_len 0 n) = from_columns to n sizes size (λ i below. elim (done i below) [
      | inl is ↦ is.1
      | inr never ↦ let at : place i < now = inside i below in absurd (let behind : now ≤ place i = never.0 in omega arith)
    ]) in
    let added : sum (map to (range_with_len 0 n)) + sum (map amount (range_with_len 0 n)) ≡ sum (map (λ (i : ℕ). get_or widths i 0) (range_with_len 0 n)) =
    sum-added to amount (λ (i : ℕ). get_or widths i 0) (range_with_len 0 n) (λ i. let le : amount i ≤ get_or widths i 0 = most i in omega arith) in
    let sizes_sum : sum sizes ≡ sum (map to (range_with_len 0 n)) = ap sum sizes_are in
    let widths_sum : sum widths ≡ sum (map (λ (i : ℕ). get_or widths i 0) (range_with_len 0 n)) = ap sum (from_columns (λ (i : ℕ). get_or widths i 0) n widths refl (λ i below. refl)) in
    omega arith

-- and all is given
pub all-given : (place amount : ℕ → ℕ) (widths sizes : List ℕ) (now : ℕ) → length sizes ≡ length widths → ((i : ℕ) → i < length widths → place i < now)
    → AreDone place (λ i. get_or widths i 0) (λ i. get_or widths i 0 + amount i) (length widths) now sizes → sum sizes ≡ sum widths + sum (map amount (column_numbers widths))
all-given place amount widths sizes now size inside done =
    let n : ℕ = length widths in
    let to : ℕ → ℕ = λ (i : ℕ). get_or widths i 0 + amount i in
    let sizes_are : sizes ≡ map to (range_with_len 0 n) = from_columns to n sizes size (λ i below. elim (done i below) [
      | inl is ↦ is.1
      | inr never ↦ let at : place i < now = inside i below in absurd (let behind : now ≤ place i = never.0 in omega arith)
    ]) in
    let added : sum (map (λ (i : ℕ). get_or widths i 0) (range_with_len 0 n)) + sum (map amount (range_with_len 0 n)) ≡ sum (map to (range_with_len 0 n)) =
    sum-added (λ (i : ℕ). get_or widths i 0) amount to (range_with_len 0 n) (λ i. refl) in
    let sizes_sum : sum sizes ≡ sum (map to (range_with_len 0 n)) = ap sum sizes_are in
    let widths_sum : sum widths ≡ sum (map (λ (i : ℕ). get_or widths i 0) (range_with_len 0 n)) = ap sum (from_columns (λ (i : ℕ). get_or widths i 0) n widths refl (λ i below. refl)) in
    omega arith

-- no column moves more than all together
pub one-of-all : (amount : ℕ → ℕ) (widths : List ℕ) (column : ℕ) → column < length widths → amount column ≤ sum (map amount (column_numbers widths))
one-of-all amount widths column inside =
    let at : get_or (map amount (range_with_len 0 (length widths))) column 0 ≡ amount column = at_column amount (length widths) column inside in
    let size : length (map amount (range_with_len 0 (length widths))) ≡ length widths = length-map-range_with_len amount 0 (length widths) in
    let most : get_or (map amount (range_with_len 0 (length widths))) column 0 ≤ sum (map amount (range_with_len 0 (length widths))) =
    get_or-le-sum_by (λ (x : ℕ). x) (map amount (range_with_len 0 (length widths))) column 0 (omega arith) in
    omega arith
