-- The needs of a table's cells in the order in which its texts are read.
use Rattle.std.specs.Prelude.{◌≡◌, ℕ, ◌+◌, List, [], ◌∷◌, ◌++◌, length, if◌then◌else◌}
use Rattle.std.specs.List.{flat_map}
use Rattle.grid_config.specs.Spans.{extent_at}
use Rattle.grid_config_values.specs.declared.position.Position.{Position}
use Rattle.grid_records_traits.specs.Rows.{evened}
use Rattle.grid_records_estimate.specs.Collecting.{Collected, HasCollected}
use Rattle.grid_records_estimate.specs.Sizing.{TableSizing, height_need, is_visible, position_at, width_need}
use Rattle.grid_records_estimate.specs.declared.need.Need.{Need}
use Rattle.grid_records_estimate.specs.declared.collected.CollectedNeeds.{CollectedNeeds}

-- a cell: its place and its text
abbrev pub Placed : Type 0
Placed = Position × List ℕ

-- what a cell needs of columns, with its span as it was set: nothing where it is not visible
abbrev pub width_needs : TableSizing → Placed → List Need
width_needs sizing cell =
    if is_visible sizing.spans cell.0
    then record { length = (extent_at sizing.spans cell.0).columns; first = cell.0.col; cross_track = cell.0.row; size = width_need sizing cell.0 cell.1 } ∷ []
    else []

-- what a cell needs of rows, likewise
abbrev pub height_needs : TableSizing → Placed → List Need
height_needs sizing cell =
    if is_visible sizing.spans cell.0
    then record { length = (extent_at sizing.spans cell.0).rows; first = cell.0.row; cross_track = cell.0.col; size = height_need sizing cell.0 cell.1 } ∷ []
    else []

-- the cells of a row, from a column on
abbrev pub row_cells_from : ℕ → ℕ → List (List ℕ) → List Placed
row_cells_from row column [] = []
row_cells_from row column (text ∷ texts) = (position_at row column, text) ∷ row_cells_from row (column + 1) texts

-- the cells of rows, from a row on
abbrev pub table_cells : ℕ → List (List (List ℕ)) → List Placed
table_cells row [] = []
table_cells row (texts ∷ rows) = row_cells_from row 0 texts ++ table_cells (row + 1) rows

-- these cells were read, and what they need was collected
pub record HasRead (sizing : TableSizing) (widths heights : Collected) (cells : List Placed) : Type 0 where
  pub widths_are : HasCollected widths (flat_map (width_needs sizing) cells)
  pub heights_are : HasCollected heights (flat_map (height_needs sizing) cells)

-- these are how many columns and rows a table has, and what its cells need
pub record AreCollectedNeeds (sizing : TableSizing) (columns : ℕ) (rows : List (List (List ℕ))) (collected : CollectedNeeds) : Type 0 where
  pub columns_are : collected.columns ≡ columns
  pub rows_are : collected.rows ≡ length rows
  pub read : HasRead sizing collected.widths collected.heights (table_cells 0 (evened columns rows))
