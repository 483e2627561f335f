-- Lists of widths that are grown.
use Rattle.std.specs.Prelude.{◌≡◌, ◌<◌, ℕ, ◌+◌, ◌==◌, nat_lt, Bool, List, [], length, map, max, sum, slice_index, slice_set, EachIndex, SomeIndex, if◌then◌else◌}
use Rattle.tabled_size_priority.specs.LevelRules.Columns.{column_numbers, from_side, from_column}
use Rattle.tabled_size_priority.specs.Peaking.{HasNothing, InPlace, IsFirstAbove, NoneAbove, Widest}
use Rattle.tabled_size_priority.specs.Shrinking.{IsOfForm}

-- ---- each width is raised to a level

-- of a column at a place: those before place c are raised to one more
abbrev pub raised_to_level : ℕ → ℕ → ℕ → ℕ → ℕ
raised_to_level level c place width = max width (if nat_lt place c then level + 1 else level)

abbrev pub grown_to_level : (ℕ → ℕ) → List ℕ → ℕ → ℕ → List ℕ
grown_to_level place widths level c = map (λ column. raised_to_level level c (place column) (slice_index widths column)) (column_numbers widths)

-- ---- the columns that are not 0 get in turns

-- of a column at a place: those before place c get once more than the others
abbrev pub size_grown_in_turns : ℕ → ℕ → ℕ → ℕ → ℕ
size_grown_in_turns turns c place width = if width == 0 then 0 else width + (if nat_lt place c then turns + 1 else turns)

abbrev pub grown_in_turns : (ℕ → ℕ) → List ℕ → ℕ → ℕ → List ℕ
grown_in_turns place widths turns c = map (λ column. size_grown_in_turns turns c (place column) (slice_index widths column)) (column_numbers widths)

-- ---- one column gets all

abbrev pub all_to : List ℕ → ℕ → ℕ → List ℕ
all_to widths by column = slice_set widths column (slice_index widths column + by)

-- the first column that is not 0 gets all; where there is none, nothing is grown
pub record IsGrownAlone (goes_before : ℕ → ℕ → Type 0) (by : ℕ) (widths sizes : List ℕ) : Type 0 where
  pub first_gets_all : (column : ℕ) → IsFirstAbove goes_before [] widths (length widths) column → sizes ≡ all_to widths by column
  pub none_gets : NoneAbove [] widths (length widths) → sizes ≡ widths

-- ---- the five priorities; a side is right or left

abbrev pub IsGrownFromSide : Bool → ℕ → List ℕ → List ℕ → Type 0
IsGrownFromSide right by widths sizes = IsGrownAlone (InPlace (from_side right (length widths))) by widths sizes

abbrev pub IsGrownByWidest : Bool → ℕ → List ℕ → List ℕ → Type 0
IsGrownByWidest right by widths sizes = IsGrownAlone (Widest (from_side right (length widths)) widths) by widths sizes

-- nothing where a width is 0, nor of an empty list
pub record IsGrownByNarrowest (right : Bool) (by : ℕ) (widths sizes : List ℕ) : Type 0 where
  pub nothing : HasNothing widths → sizes ≡ widths
  pub raised : 0 < length widths → EachIndex widths (λ column. 0 < slice_index widths column)
      → IsOfForm (grown_to_level (from_side right (length widths)) widths) (sum widths + by) sizes

-- nothing where all are 0
pub record IsGrownInTurns (start by : ℕ) (widths sizes : List ℕ) : Type 0 where
  pub nothing : EachIndex widths (λ column. slice_index widths column ≡ 0) → sizes ≡ widths
  pub turns : SomeIndex widths (λ column. 0 < slice_index widths column)
      → IsOfForm (grown_in_turns (from_column start (length widths)) widths) (sum widths + by) sizes
