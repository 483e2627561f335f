-- The cells of a text as the code holds them: measured parts of the text, one row after the other.
use Rattle.std.specs.Prelude.{ℕ, ◌==◌, Bool, false, List, [], ◌∷◌, chars, length, map, vec_items}
use Rattle.std.specs.Borrow.{Bor}
use Rattle.grid_records_measure.specs.Measures.{measure}
use Rattle.grid_records_measure.specs.TextLines.{line_width}
use Rattle.columns_run.specs.Rows.{cell_parts, stripped}
use Rattle.columns_table.specs.Rows.{split_by_lengths}
use Rattle.columns_table.specs.declared.cells.LineCell.{LineCell}
use Rattle.columns_table.specs.declared.rows.Rows.{Rows}

-- a line: the columns that it measures, and its bytes
pub record Line : Type 0 where
  pub measure : ℕ
  pub items : List ℕ

-- the bytes of a text
abbrev pub bytes : Bor (List ℕ) → List ℕ
bytes text = text.now

-- a cell as a line
abbrev pub line_of_cell : LineCell → Line
line_of_cell cell = record { measure = cell.width; items = cell.text.now }

-- a part of a text: its bytes, and the columns of the characters that it shows
abbrev pub part_line : List ℕ → Line
part_line part = record { measure = line_width part; items = part }

-- bytes of a text with the columns that they measure
abbrev pub byte_line : List ℕ → Line
byte_line bytes = record { measure = measure (chars bytes); items = bytes }

-- the rows of a text, each cell its one line
abbrev pub line_rows : List ℕ → List (List Line)
line_rows text = map (map part_line) (cell_parts text)

-- the texts of lines
abbrev pub texts_of_lines : List (List Line) → List (List (List ℕ))
texts_of_lines rows = map (map (λ line. line.items)) rows

-- there is a last part, and it shows nothing
abbrev pub last_shows_nothing : List (List ℕ) → Bool
last_shows_nothing [] = false
last_shows_nothing (part ∷ []) = length (stripped part) == 0
last_shows_nothing (part ∷ next ∷ parts) = last_shows_nothing (next ∷ parts)

-- the rows of cells, each of one line
abbrev pub rows_shown : Rows → List (List Line)
rows_shown rows = split_by_lengths (vec_items rows.counts) (map line_of_cell rows.cells)
