-- Cells that come one after the other in a text, separated by one byte each, by where they end.
use Rattle.std.specs.Prelude.{ℕ, ◌+◌, ◌≤◌, ⊤, List, [], ◌∷◌, slice_range}
use Rattle.std.specs.Str.{IsCharBoundary}
use Rattle.columns_table.specs.Cells.{cell_of}
use Rattle.columns_table.specs.declared.cells.LineCell.{LineCell}
use Rattle.columns_table.specs.declared.ends.CellEnd.{CellEnd}

-- where one more cell would begin, where the first begins at `start`
abbrev pub start_behind_from : ℕ → List CellEnd → ℕ
start_behind_from start [] = start
start_behind_from start (cell ∷ cells) = start_behind_from (cell.end + 1) cells

abbrev pub start_behind : List CellEnd → ℕ
start_behind cells = start_behind_from 0 cells

-- the cells of the text that end there, where the first begins at `start`
abbrev pub cells_from : List ℕ → ℕ → List CellEnd → List LineCell
cells_from text start [] = []
cells_from text start (cell ∷ cells) = cell_of (slice_range text start cell.end) cell.width ∷ cells_from text (cell.end + 1) cells

abbrev pub cells_in : List ℕ → List CellEnd → List LineCell
cells_in text cells = cells_from text 0 cells

-- what lies between these places is a text
abbrev pub IsTextIn : List ℕ → ℕ → ℕ → Type 0
IsTextIn text start end = (start ≤ end) × IsCharBoundary text start × IsCharBoundary text end

-- a cell of the text ends at each, where the first begins at `start`
abbrev pub AreEndsFrom : List ℕ → ℕ → List CellEnd → Type 0
AreEndsFrom text start [] = ⊤
AreEndsFrom text start (cell ∷ cells) = IsTextIn text start cell.end × AreEndsFrom text (cell.end + 1) cells

abbrev pub AreCellEnds : List ℕ → List CellEnd → Type 0
AreCellEnds text cells = AreEndsFrom text 0 cells
