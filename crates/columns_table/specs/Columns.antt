-- What the widest cell of each column takes, in rows with these counts of cells.
use Rattle.std.specs.Prelude.{◌≡◌, ℕ, ◌≤◌, List, length, map, slice_index}
use Rattle.grid_records_estimate.specs.Estimates.{greatest}
use Rattle.columns_table.specs.SplitByLengths.{split_by_lengths}
use Rattle.columns_table.specs.declared.cells.LineCell.{LineCell}
use Rattle.columns_table.specs.declared.ends.CellEnd.{CellEnd}

-- the columns that cells take
abbrev pub cell_widths : List LineCell → List ℕ
cell_widths cells = map (λ cell. cell.width) cells

abbrev pub end_widths : List CellEnd → List ℕ
end_widths ends = map (λ end. end.width) ends

-- the greatest of the widths in a column, where a row that is too short for it has 0 there
abbrev pub widest_in : List ℕ → List ℕ → ℕ → ℕ
widest_in counts widths column = greatest (map (λ row. slice_index row column) (split_by_lengths counts widths))

-- they are those of all columns, and after them 0
pub record AreWidest (widest counts widths : List ℕ) : Type 0 where
  pub long : greatest counts ≤ length widest
  pub each : (column : ℕ) → slice_index widest column ≡ widest_in counts widths column
