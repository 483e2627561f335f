-- The least sizes of a table whose cells are one line each.
use Rattle.std.specs.Prelude.{ℕ, ◌+◌, List, map, slice_index}
use Rattle.columns_table.specs.declared.cells.LineCell.{LineCell}

-- what the cell of this row in this column measures, and 0 where the row has none
abbrev pub width_in : ℕ → List LineCell → ℕ
width_in column cells = slice_index (map (λ cell. cell.width) cells) column

-- a size between two paddings
abbrev pub padded : ℕ → ℕ → ℕ → ℕ
padded before behind size = size + before + behind
