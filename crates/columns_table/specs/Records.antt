-- The rows of a text as records: each cell is a single line, and what it measures is known.
use Rattle.std.specs.Prelude.{ℕ, ◌+◌, ◌<◌, ◌≤◌, List, [], ◌∷◌, length, map, slice_index, slice_index_or, slice_range}
use Rattle.grid_records_traits.specs.SingleLines.{IsSingleLine}
use Rattle.columns_table.specs.declared.cells.LineCell.{LineCell}

-- the cell is a single line, and measures the columns that are beside it
abbrev pub IsSingleLineCell : LineCell → Type 0
IsSingleLineCell cell = IsSingleLine cell.text.now cell.width

-- ---- rows by where they begin

-- where slices of these lengths begin, the first of them at `at`
abbrev pub starts_from : ℕ → List ℕ → List ℕ
starts_from at [] = []
starts_from at (n ∷ ns) = at ∷ starts_from (at + n) ns

-- the slices of a list that begin at these places, each up to the next
abbrev pub sliced_at : {X : Type 0} → List ℕ → List X → List (List X)
sliced_at [] xs = []
sliced_at (start ∷ starts) xs = slice_range xs start (slice_index_or starts 0 (length xs)) ∷ sliced_at starts xs

-- the places ascend: none is below the one before it, and none above `end`
abbrev pub Ascend : List ℕ → ℕ → Type 0
Ascend starts end = (k : ℕ) → k < length starts → (slice_index starts k ≤ slice_index_or starts (k + 1) end) × (slice_index_or starts (k + 1) end ≤ end)

-- their texts
abbrev pub placed_texts : List ℕ → List LineCell → List (List (List ℕ))
placed_texts starts cells = map (map (λ cell. cell.text.now)) (sliced_at starts cells)
