-- Rows of items that are all in one list, by where they end in it.
use Rattle.std.specs.Prelude.{ℕ, ◌<◌, ◌≤◌, List, [], ◌∷◌, length, slice_index, slice_range}

-- the rows of items that end there, the first from `start` on, and each other from the end of the one before it
abbrev pub rows_by : {X : Type 0} → ℕ → List ℕ → List X → List (List X)
rows_by start [] items = []
rows_by start (end ∷ ends) items = slice_range items start end ∷ rows_by end ends items

-- where a row begins; after the last, where that one ends
abbrev pub start_at : ℕ → List ℕ → ℕ → ℕ
start_at start ends row = slice_index (start ∷ ends) row

-- no row ends before it begins, and none after so many items
pub record Ascend (start : ℕ) (ends : List ℕ) (count : ℕ) : Type 0 where
  pub within : (row : ℕ) → row ≤ length ends → start_at start ends row ≤ count
  pub ascend : (row : ℕ) → row < length ends → start_at start ends row ≤ slice_index ends row
