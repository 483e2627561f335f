-- The placed parts of a line side by side.
use Rattle.std.specs.Prelude.{◌≡◌, ◌⊎◌, ℕ, ◌+◌, ◌<◌, ◌≤◌, true, List, [], ◌∷◌, ◌++◌, length, slice_index}
use Rattle.grid_config_values.specs.declared.position.Position.{Position}
use Rattle.grid_config_values.specs.declared.spans.extent.Extent.{Extent}
use Rattle.grid_config_values.specs.Spans.Spans.{AreGood, ArePositive, extent_at}
use Rattle.papergrid_picture.specs.Frame.{Boundary, Frame, InMargin, LineKind, Row, Tracks, block_height, block_width, boundary_at, column_count, full_line_width, row_count, track_at}
use Rattle.papergrid_picture.specs.Blocks.{Grid, greatest}
use Rattle.papergrid_picture.specs.Picture.{PlacedPart, block_parts, picture_line, seen}

-- from column a to column b, with no gap and no overlap
abbrev pub Tiles : ℕ → List PlacedPart → ℕ → Type 0
Tiles a [] b = a ≡ b
Tiles a (placed ∷ others) b = (placed.left ≡ a) × Tiles (a + placed.part.width) others b

-- the rectangle of each cell that is seen is wide enough for the cell's widest line and the paddings at its sides
pub record HasRoom (grid : Grid) : Type 0 where
  pub room : (row column : ℕ) → row < row_count grid.frame → column < column_count grid.frame →
      let cell = seen grid row column in
      let padding = grid.frame.look.padding cell in
      greatest (grid.measures cell) + padding.left.size + padding.right.size ≤ block_width grid.frame cell

-- the extents are those of spans, which are good and each of at least one row and one column
pub record HasGoodSpans (grid : Grid) (spans : List (Position × Extent)) : Type 0 where
  pub extents : grid.frame.look.extent ≡ extent_at spans
  pub positive : ArePositive spans
  pub good : AreGood spans (row_count grid.frame) (column_count grid.frame)

-- line y is one of those where the sizes put this: the one line of a boundary that exists, a line of a row, or else a
-- line of a margin, above the first boundary or below the last
abbrev pub ShowsKind : Tracks → ℕ → LineKind → Type 0
ShowsKind rows y (Boundary i) = (i ≤ length rows.sizes) × (rows.has_boundary i ≡ true) × (y ≡ boundary_at rows i)
ShowsKind rows y (Row i) = (i < length rows.sizes) × (track_at rows i ≤ y) × (y < track_at rows i + slice_index rows.sizes i)
ShowsKind rows y InMargin = (y < rows.margin) ⊎ (track_at rows (length rows.sizes) ≤ y)

-- the columns of a table begin after its left margin, as they do in every table of sizes
abbrev pub BeginsBehindMargin : Frame → Type 0
BeginsBehindMargin frame = frame.columns.margin ≡ frame.look.margin.left.size

-- line y shows a line of the cell's block between the columns of its rectangle, and other placed parts tile what is
-- left of it and what is right of it
pub record ShowsBlock (grid : Grid) (cell : Position) (y : ℕ) : Type 0 where
  pub before : List PlacedPart
  pub behind : List PlacedPart
  pub parted : picture_line grid y ≡ before ++ (block_parts grid cell y ++ behind)
  pub left : Tiles 0 before (track_at grid.frame.columns cell.col)
  pub inside : Tiles (track_at grid.frame.columns cell.col) (block_parts grid cell y) (track_at grid.frame.columns cell.col + block_width grid.frame cell)
  pub right : Tiles (track_at grid.frame.columns cell.col + block_width grid.frame cell) behind (full_line_width grid.frame)

-- line y is one of those of the rectangle of a cell
abbrev pub IsLineOf : Grid → Position → ℕ → Type 0
IsLineOf grid cell y = (track_at grid.frame.rows cell.row ≤ y) × (y < track_at grid.frame.rows cell.row + block_height grid.frame cell)

-- each cell that is seen has lines, and its rectangle is high enough to show them all
pub record ShowsAllLines (grid : Grid) : Type 0 where
  pub lines : (row column : ℕ) → row < row_count grid.frame → column < column_count grid.frame →
      let cell = seen grid row column in
      (0 < length (grid.measures cell)) × ((grid.frame.look.padding cell).top.size + length (grid.measures cell) ≤ block_height grid.frame cell)
