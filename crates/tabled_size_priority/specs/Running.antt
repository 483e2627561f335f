-- A priority that is called for one column after another.
use Rattle.std.specs.Prelude.{◌≡◌, ◌≤◌, ◌<◌, ℕ, zero, suc, ◌+◌, ◌-◌, nat_lt, List, [], length, min, slice_index, slice_set, Option, Some, None, if◌then◌else◌}
use Rattle.tabled_size_priority.specs.Shrinking.{gap_sum}

-- no column of `count` columns
abbrev pub IsNowhere : ℕ → Option ℕ → Type 0
IsNowhere count None = Unit {0}
IsNowhere count (Some column) = count ≤ column

-- ---- shrinking

-- where a shrink is: what is still to be taken, and how many answers in a row took nothing
pub record Stand (S : Type 0) : Type 0 where
  pub priority : S
  pub widths : List ℕ
  pub left : ℕ
  pub fruitless : ℕ

-- it goes on: something is to be taken, and not as many answers as there are columns were fruitless
pub record GoesOn {S : Type 0} (stand : Stand S) : Type 0 where
  pub some_left : 0 < stand.left
  pub some_hope : stand.fruitless < length stand.widths

-- what an answer that names a column does: one is taken from a column above its least
abbrev pub answered : {S : Type 0} → List ℕ → ℕ → S → Stand S → Stand S
answered least column after stand =
    if nat_lt (slice_index least column) (slice_index stand.widths column)
    then record { priority = after; widths = slice_set stand.widths column (slice_index stand.widths column - 1); left = stand.left - 1; fruitless = 0 }
    else record { priority = after; widths = stand.widths; left = stand.left; fruitless = stand.fruitless + 1 }

-- one answer more
pub record OneAnswer {S : Type 0} (peaks : S → List ℕ → List ℕ → Option ℕ → S → Type 0) (least : List ℕ) (Before : Stand S → Type 0) (now : Stand S) : Type 0 where
  pub before : Stand S
  pub so_far : Before before
  pub goes_on : GoesOn before
  pub column : ℕ
  pub inside : column < length before.widths
  pub after : S
  pub answer : peaks before.priority least before.widths (Some column) after
  pub is_now : now ≡ answered least column after before

-- n answers lead from the start to here
abbrev pub Leads : {S : Type 0} → (S → List ℕ → List ℕ → Option ℕ → S → Type 0) → List ℕ → Stand S → ℕ → Stand S → Type 0
Leads peaks least start zero now = now ≡ start
Leads peaks least start (suc n) now = OneAnswer peaks least (Leads peaks least start n) now

-- why it ends, and the priority then
pub data Ends {S : Type 0} (peaks : S → List ℕ → List ℕ → Option ℕ → S → Type 0) (least : List ℕ) (now : Stand S) : S → Type 0 where
  all_taken : now.left ≡ 0 → Ends peaks least now now.priority
  hopeless : length now.widths ≤ now.fruitless → Ends peaks least now now.priority
  nowhere : GoesOn now → (answer : Option ℕ) (after : S) → peaks now.priority least now.widths answer after → IsNowhere (length now.widths) answer → Ends peaks least now after

-- a priority shrinks widths: it is called until all is taken that can be, until as many answers in a row as there are columns
-- took nothing, or until it names no column
pub record IsShrunkBy {S : Type 0} (peaks : S → List ℕ → List ℕ → Option ℕ → S → Type 0) (priority : S) (least : List ℕ) (by : ℕ) (widths : List ℕ) (after : S) (sizes : List ℕ) : Type 0 where
  pub answers : ℕ
  pub end : Stand S
  pub run : Leads peaks least (record { priority = priority; widths = widths; left = min by (gap_sum least widths); fruitless = 0 }) answers end
  pub ends : Ends peaks least end after
  pub sizes_are : sizes ≡ end.widths

-- ---- growing

-- where a growth is: what is still to be given
pub record Growth (S : Type 0) : Type 0 where
  pub priority : S
  pub widths : List ℕ
  pub left : ℕ

-- one answer more: the column that is named gets one
pub record OneMore {S : Type 0} (peaks : S → List ℕ → List ℕ → Option ℕ → S → Type 0) (Before : Growth S → Type 0) (now : Growth S) : Type 0 where
  pub before : Growth S
  pub so_far : Before before
  pub some_left : 0 < before.left
  pub column : ℕ
  pub inside : column < length before.widths
  pub after : S
  pub answer : peaks before.priority [] before.widths (Some column) after
  pub is_now : now ≡ record { priority = after; widths = slice_set before.widths column (slice_index before.widths column + 1); left = before.left - 1 }

abbrev pub Grows : {S : Type 0} → (S → List ℕ → List ℕ → Option ℕ → S → Type 0) → Growth S → ℕ → Growth S → Type 0
Grows peaks start zero now = now ≡ start
Grows peaks start (suc n) now = OneMore peaks (Grows peaks start n) now

pub data GrowthEnds {S : Type 0} (peaks : S → List ℕ → List ℕ → Option ℕ → S → Type 0) (now : Growth S) : S → Type 0 where
  all_given : now.left ≡ 0 → GrowthEnds peaks now now.priority
  to_none : 0 < now.left → (answer : Option ℕ) (after : S) → peaks now.priority [] now.widths answer after → IsNowhere (length now.widths) answer → GrowthEnds peaks now after

-- a priority grows widths: it is called, without leasts, until all is given, or until it names no column
pub record IsGrownBy {S : Type 0} (peaks : S → List ℕ → List ℕ → Option ℕ → S → Type 0) (priority : S) (by : ℕ) (widths : List ℕ) (after : S) (sizes : List ℕ) : Type 0 where
  pub answers : ℕ
  pub end : Growth S
  pub run : Grows peaks (record { priority = priority; widths = widths; left = by }) answers end
  pub ends : GrowthEnds peaks end after
  pub sizes_are : sizes ≡ end.widths
