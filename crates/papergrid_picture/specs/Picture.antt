-- The picture of a table, by its lines: each is the list of its placed parts from left to right, by coordinates.
use Rattle.std.specs.Prelude.{ℕ, ◌+◌, ◌-◌, ◌==◌, nat_lt, List, [], ◌∷◌, ◌++◌, Option, flat_map, map, unwrap_or, slice_index, slice_index_or, if◌then◌else◌}
use Rattle.std.specs.List.{range_with_len}
use Rattle.grid_config_values.specs.declared.position.Position.{Position}
use Rattle.grid_config_values.specs.declared.sides.Indent.{Indent}
use Rattle.grid_config_values.specs.Glyphs.{boundary_kind, crossing, along_column, in_row}
use Rattle.grid_config_values.specs.Spans.Owners.{owner}
use Rattle.grid_config.specs.Colors.{Color}
use Rattle.papergrid_picture.specs.Frame.{boundary_at, track_at, LineKind, Boundary, Row, InMargin, line_kind, row_count, column_count, block_width, block_height, full_line_width}
use Rattle.papergrid_picture.specs.Blocks.{Content, Fill, Glyph, Part, fill, Grid, block}

-- a part and the column in which it begins
pub record PlacedPart : Type 0 where
  pub left : ℕ
  pub part : Part

-- parts side by side, from a column on
abbrev pub laid : ℕ → List Part → List PlacedPart
laid left [] = []
laid left (part ∷ parts) = record { left = left; part = part } ∷ laid (left + part.width) parts

-- the parts, without their places
abbrev pub parts_of : List PlacedPart → List Part
parts_of line = map (λ placed. placed.part) line

-- a place by its row and column
abbrev pub at : ℕ → ℕ → Position
at row column = record { row = row; col = column }

-- what a boundary shows where its glyph is not set: a space
abbrev pub blank : ℕ
blank = 0x20

module _ (grid : Grid) where
  -- the cell that is seen at a place of the table
  abbrev pub seen : ℕ → ℕ → Position
  seen row column = owner grid.frame.look.extent (at row column)

  -- what a cell shows in line y of the picture
  abbrev pub block_parts : Position → ℕ → List PlacedPart
  block_parts cell y =
      laid (track_at grid.frame.columns cell.col)
      (slice_index_or (block grid cell (block_width grid.frame cell) (block_height grid.frame cell)) (y - track_at grid.frame.rows cell.row) [])

  -- column boundary j, where it exists
  abbrev pub edge : (ℕ → Content) → Option ℕ → Option Color → ℕ → List PlacedPart
  edge content glyph color j =
      if grid.frame.columns.has_boundary j
      then laid (boundary_at grid.frame.columns j) (record { width = 1; content = content (unwrap_or glyph blank); color = color } ∷ [])
      else []

  -- boundary j in a row, and where row boundary i meets it
  abbrev pub upright : ℕ → List PlacedPart
  upright j =
      let kind = boundary_kind j (column_count grid.frame) in
      edge Fill (in_row grid.frame.look.borders kind) (in_row grid.frame.look.borders_color kind) j

  abbrev pub crossing_at : ℕ → ℕ → List PlacedPart
  crossing_at i j =
      let row = boundary_kind i (row_count grid.frame) in
      let column = boundary_kind j (column_count grid.frame) in
      edge Glyph (crossing grid.frame.look.borders row column) (crossing grid.frame.look.borders_color row column) j

  -- row boundary i along column j
  abbrev pub along : ℕ → ℕ → List PlacedPart
  along i j =
      let kind = boundary_kind i (row_count grid.frame) in
      laid (track_at grid.frame.columns j)
      (record {
        width = slice_index grid.frame.columns.sizes j;
        content = Glyph (unwrap_or (along_column grid.frame.look.borders kind) blank);
        color = along_column grid.frame.look.borders_color kind;
      } ∷ [])

  -- boundary j and column j in line y, which shows row i: a cell is seen from its first column on, after its left
  -- boundary
  abbrev pub row_part : ℕ → ℕ → ℕ → List PlacedPart
  row_part i y j =
      let cell = seen i j in
      if cell.col == j then upright j ++ block_parts cell y else []

  -- the same where line y shows row boundary i: a cell that begins above it goes on, else the boundary is seen
  abbrev pub boundary_part : ℕ → ℕ → ℕ → List PlacedPart
  boundary_part i y j =
      let cell = seen i j in
      if nat_lt cell.row i
      then (if cell.col == j then crossing_at i j ++ block_parts cell y else [])
      else crossing_at i j ++ along i j

  -- the margins, and between them all columns and the last boundary
  abbrev pub across : (ℕ → List PlacedPart) → List PlacedPart → List PlacedPart
  across part last =
      let margin = grid.frame.look.margin in
      let color = grid.frame.look.margin_color in
      laid 0 (fill margin.left.size margin.left.fill color.left ∷ [])
      ++ (flat_map part (range_with_len 0 (column_count grid.frame))
      ++ (last
      ++ laid (track_at grid.frame.columns (column_count grid.frame)) (fill margin.right.size margin.right.fill color.right ∷ [])))

  -- a line of the top or the bottom margin
  abbrev pub margin_line : Indent → Option Color → List PlacedPart
  margin_line margin color = laid 0 (fill (full_line_width grid.frame) margin.fill color ∷ [])

  -- line y, which is of this kind
  abbrev pub placed_parts_at : LineKind → ℕ → List PlacedPart
  placed_parts_at (Boundary i) y = across (boundary_part i y) (crossing_at i (column_count grid.frame))
  placed_parts_at (Row i) y = across (row_part i y) (upright (column_count grid.frame))
  placed_parts_at InMargin y =
      let margin = grid.frame.look.margin in
      let color = grid.frame.look.margin_color in
      if nat_lt y grid.frame.rows.margin then margin_line margin.top color.top else margin_line margin.bottom color.bottom

  -- line y of the picture
  abbrev pub picture_line : ℕ → List PlacedPart
  picture_line y = placed_parts_at (line_kind grid.frame.rows y) y
