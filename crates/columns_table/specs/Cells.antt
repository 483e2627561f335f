-- Cells of texts and the columns that these take.
use Rattle.std.specs.Prelude.{ℕ, List, [], ◌∷◌, length}
use Rattle.columns_table.specs.declared.cells.LineCell.{LineCell}

-- a cell with this text, wherever that lies
abbrev pub cell_of : List ℕ → ℕ → LineCell
cell_of text width = record { text = record { ref_ptr = (0, 0); now = text }; width = width }

-- the cell, wherever its text lies
abbrev pub anywhere : LineCell → LineCell
anywhere cell = cell_of cell.text.now cell.width

-- the cells of these texts, with these columns; a text after the last of the columns takes its bytes
abbrev pub cells_of : List ℕ → List (List ℕ) → List LineCell
cells_of widths [] = []
cells_of [] (text ∷ texts) = cell_of text (length text) ∷ cells_of [] texts
cells_of (width ∷ widths) (text ∷ texts) = cell_of text width ∷ cells_of widths texts
