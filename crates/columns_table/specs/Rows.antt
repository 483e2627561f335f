-- Rows of cells as the code holds them: measured parts of a text, one row after the other.
use Rattle.std.specs.Prelude.{ℕ, List, map, vec_items}
pub use Rattle.columns_table.specs.SplitByLengths.{split_by_lengths}
use Rattle.columns_table.specs.declared.cells.LineCell.{LineCell}
use Rattle.columns_table.specs.declared.rows.Rows.{Rows}

-- the texts of cells
abbrev pub cell_texts : List LineCell → List (List ℕ)
cell_texts cells = map (λ cell. cell.text.now) cells

-- the texts of the rows, each row as long as it is
abbrev pub row_texts_of : Rows → List (List (List ℕ))
row_texts_of rows = map cell_texts (split_by_lengths (vec_items rows.counts) rows.cells)
