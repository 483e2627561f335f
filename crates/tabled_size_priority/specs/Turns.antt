-- What the priority that goes round makes of widths, and where it then goes on.
use Rattle.std.specs.Prelude.{◌≡◌, ◌≤◌, ◌<◌, ℕ, ◌+◌, ◌-◌, List, length, slice_index, ◌⊎◌}
use Rattle.tabled_size_priority.specs.LevelRules.Columns.{from_column}
use Rattle.tabled_size_priority.specs.Peaks.{start_of}
use Rattle.tabled_size_priority.specs.Shrinking.{IsShrunkInTurns}
use Rattle.tabled_size_priority.specs.Growing.{IsGrownInTurns}

-- the column at which a round ends: it is changed, by no less than any other, and no other that is changed as much comes
-- after it; `change` is how much the width of a column is changed
pub record IsLastChanged (place change : ℕ → ℕ) (count column : ℕ) : Type 0 where
  pub inside : column < count
  pub changed : 0 < change column
  pub most : (other : ℕ) → other < count → change other ≤ change column
  pub last : (other : ℕ) → other < count → change other ≡ change column → place other ≤ place column

-- it goes on at the column after the last one that it changed, or where it was if it changed none
abbrev pub GoesOnAfter : (ℕ → ℕ) → (ℕ → ℕ) → ℕ → ℕ → ℕ → Type 0
GoesOnAfter place change count before after =
    (((column : ℕ) → column < count → change column ≡ 0) × (after ≡ before))
    ⊎ ((column : ℕ) × IsLastChanged place change count column × (after ≡ column + 1))

abbrev pub shrinks_in_turns : ℕ → List ℕ → ℕ → List ℕ → ℕ → List ℕ → Type 0
shrinks_in_turns before least by widths after sizes =
    IsShrunkInTurns (start_of before (length widths)) least by widths sizes
    × GoesOnAfter (from_column (start_of before (length widths)) (length widths)) (λ column. slice_index widths column - slice_index sizes column) (length widths) before after

abbrev pub grows_in_turns : ℕ → ℕ → List ℕ → ℕ → List ℕ → Type 0
grows_in_turns before by widths after sizes =
    IsGrownInTurns (start_of before (length widths)) by widths sizes
    × GoesOnAfter (from_column (start_of before (length widths)) (length widths)) (λ column. slice_index sizes column - slice_index widths column) (length widths) before after
