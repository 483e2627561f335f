-- Where the rows and the columns of a table are, and the boundaries before, between and after them. A row or a column
-- is called a track, as in the CSS Grid Layout Module (W3C).
use Rattle.std.specs.Prelude.{ℕ, ◌+◌, ◌-◌, ◌==◌, nat_lt, Bool, List, [], ◌∷◌, length, sum, take, drop, if◌then◌else◌}
use Rattle.std.specs.List.{filter, range_with_len}
use Rattle.grid_config_values.specs.declared.position.Position.{Position}
use Rattle.grid_config_values.specs.Glyphs.{boundary_kind, has_column_boundary, has_row_boundary}
use Rattle.grid_config.specs.Looks.{Look}

-- tracks by their sizes, with the margin before the first; and which of the boundaries exist
pub record Tracks : Type 0 where
  pub margin : ℕ
  pub sizes : List ℕ
  pub has_boundary : ℕ → Bool

-- a boundary that exists takes one column or one line
abbrev pub thickness : Bool → ℕ
thickness is_there = if is_there then 1 else 0

module _ (tracks : Tracks) where
  -- boundary n comes after the margin and the n tracks before it with their boundaries, and track n right after
  -- boundary n
  abbrev pub boundary_at : ℕ → ℕ
  boundary_at n = tracks.margin + sum (take n tracks.sizes) + length (filter tracks.has_boundary (range_with_len 0 n))

  abbrev pub track_at : ℕ → ℕ
  track_at n = boundary_at n + thickness (tracks.has_boundary n)

  -- what n tracks from one on take, with the boundaries strictly between them that exist
  abbrev pub stretch : ℕ → ℕ → ℕ
  stretch first n = sum (take n (drop first tracks.sizes)) + length (filter tracks.has_boundary (range_with_len (first + 1) (n - 1)))

-- what kind a line of a picture is: of a boundary of rows, of a row, or of neither, which is a margin
pub data LineKind : Type 0 where
  Boundary : ℕ → LineKind
  Row : ℕ → LineKind
  InMargin : LineKind

-- the kind of line y of the rows from i on, which have these heights: boundary i, then row i, then what follows; after
-- the last boundary there is nothing more
abbrev pub kind_from : (ℕ → Bool) → ℕ → List ℕ → ℕ → LineKind
kind_from has_boundary i [] y = if nat_lt y (thickness (has_boundary i)) then Boundary i else InMargin
kind_from has_boundary i (height ∷ heights) y =
    let behind_boundary = y - thickness (has_boundary i) in
    if nat_lt y (thickness (has_boundary i)) then Boundary i
    else if nat_lt behind_boundary height then Row i
    else kind_from has_boundary (i + 1) heights (behind_boundary - height)

-- the kind of line y, the lines of the margin above first
abbrev pub line_kind : Tracks → ℕ → LineKind
line_kind rows y = if nat_lt y rows.margin then InMargin else kind_from rows.has_boundary 0 rows.sizes (y - rows.margin)

-- ---- a table by its tracks

-- the settings of a table, its rows and its columns
pub record Frame : Type 0 where
  pub look : Look
  pub rows : Tracks
  pub columns : Tracks

-- columns of these widths and rows of these heights
abbrev pub frame_of : Look → List ℕ → List ℕ → Frame
frame_of look widths heights = record {
  look = look;
  rows = record { margin = look.margin.top.size; sizes = heights; has_boundary = λ i. has_row_boundary look.borders (boundary_kind i (length heights)) };
  columns = record { margin = look.margin.left.size; sizes = widths; has_boundary = λ j. has_column_boundary look.borders (boundary_kind j (length widths)) };
}

module _ (frame : Frame) where
  -- how many rows and columns there are
  abbrev pub row_count : ℕ
  row_count = length frame.rows.sizes

  abbrev pub column_count : ℕ
  column_count = length frame.columns.sizes

  -- the rectangle of a cell: the columns and the rows that it takes, with the boundaries between them
  abbrev pub block_width : Position → ℕ
  block_width cell = stretch frame.columns cell.col (frame.look.extent cell).columns

  abbrev pub block_height : Position → ℕ
  block_height cell = stretch frame.rows cell.row (frame.look.extent cell).rows

  -- how wide a line is, margins too
  abbrev pub full_line_width : ℕ
  full_line_width = track_at frame.columns column_count + frame.look.margin.right.size

  -- how many lines there are: none without rows or columns
  abbrev pub line_count : ℕ
  line_count = if row_count == 0 then 0 else if column_count == 0 then 0 else track_at frame.rows row_count + frame.look.margin.bottom.size
