-- The level that widths are cut or raised to, and how narrow the widest stays, and how wide the narrowest gets.
use Rattle.std.specs.Prelude.{◌≡◌, ◌≤◌, ℕ, List, length, map, max, min, sum, slice_index, EachIndex}
use Rattle.tabled_size_priority.specs.LevelRules.Columns.{column_numbers}
use Rattle.tabled_size_priority.specs.LevelRules.Moving.{NoneFalls}
use Rattle.tabled_size_priority.specs.Shrinking.{floor_of, StaysBetween}

-- each width cut to a level, but not below its floor
abbrev pub all_cut : List ℕ → List ℕ → ℕ → List ℕ
all_cut least widths level = map (λ column. max (floor_of least widths column) (min (slice_index widths column) level)) (column_numbers widths)

-- the least level at which so much is left
pub record IsLeastLevel (least widths : List ℕ) (total level : ℕ) : Type 0 where
  pub enough : total ≤ sum (all_cut least widths level)
  pub least_one : (other : ℕ) → total ≤ sum (all_cut least widths other) → level ≤ other

-- each lower width raised to a level
abbrev pub all_raised : List ℕ → ℕ → List ℕ
all_raised widths level = map (λ column. max (slice_index widths column) level) (column_numbers widths)

-- the greatest level at which no more than so much is needed
pub record IsGreatestLevel (widths : List ℕ) (total level : ℕ) : Type 0 where
  pub within : sum (all_raised widths level) ≤ total
  pub greatest_one : (other : ℕ) → sum (all_raised widths other) ≤ total → other ≤ level

-- ---- bounds of all sizes

abbrev pub AreAtMost : List ℕ → ℕ → Type 0
AreAtMost sizes most = EachIndex sizes (λ column. slice_index sizes column ≤ most)

abbrev pub AreAtLeast : List ℕ → ℕ → Type 0
AreAtLeast sizes fewest = EachIndex sizes (λ column. fewest ≤ slice_index sizes column)

-- ---- other lists of the same sum

-- between the floors and the widths
pub record CouldBeShrunk (least widths sizes others : List ℕ) : Type 0 where
  pub size : length others ≡ length widths
  pub between : StaysBetween least widths others
  pub sums : sum others ≡ sum sizes

-- at or above the widths
pub record CouldBeGrown (widths sizes others : List ℕ) : Type 0 where
  pub size : length others ≡ length widths
  pub above : NoneFalls widths others
  pub sums : sum others ≡ sum sizes
