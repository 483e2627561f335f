-- The rectangle of a cell that spans rows and columns.
use Rattle.std.specs.Prelude.{ℕ, ◌+◌, ◌<◌, ◌≤◌}
use Rattle.grid_config_values.specs.declared.position.Position.{Position}
use Rattle.grid_config_values.specs.declared.spans.extent.Extent.{Extent}

-- the place is in the rectangle that begins at the anchor and has this extent
pub record Holds (anchor : Position) (extent : Extent) (place : Position) : Type 0 where
  pub below : anchor.row ≤ place.row
  pub above : place.row < anchor.row + extent.rows
  pub right : anchor.col ≤ place.col
  pub left : place.col < anchor.col + extent.columns

-- the rectangle is in a table of `rows` rows and `columns` columns
pub record IsInside (anchor : Position) (extent : Extent) (rows columns : ℕ) : Type 0 where
  pub rows_fit : anchor.row + extent.rows ≤ rows
  pub columns_fit : anchor.col + extent.columns ≤ columns
