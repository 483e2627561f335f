-- Which glyph of a table is where, by the names of papergrid's `Borders`. Of n columns there are n + 1 boundaries:
-- before the first, between two, after the last; likewise of rows.
use Rattle.std.specs.Prelude.{ℕ, ◌+◌, Bool, ◌||◌, ◌==◌, if◌then◌else◌, Option, None, is_some, length}
use Rattle.std.specs.List.{filter, range_with_len}
use Rattle.grid_config_values.specs.declared.borders.Borders.{Borders}

-- nothing is on any boundary
abbrev pub no_borders : {T : Type 0} → Borders T
no_borders = record {
  top = None;
  top_left = None;
  top_right = None;
  top_intersection = None;
  bottom = None;
  bottom_left = None;
  bottom_right = None;
  bottom_intersection = None;
  horizontal = None;
  left_intersection = None;
  right_intersection = None;
  intersection = None;
  vertical = None;
  left = None;
  right = None;
}

-- which of the boundaries 0 to n a boundary is
pub data BoundaryKind : Type 0 where
  First : BoundaryKind
  Between : BoundaryKind
  Last : BoundaryKind

abbrev pub boundary_kind : ℕ → ℕ → BoundaryKind
boundary_kind i n = if i == 0 then First else if i == n then Last else Between

-- how many of the boundaries 0 to n are there
abbrev pub boundary_count : (BoundaryKind → Bool) → ℕ → ℕ
boundary_count is_there n = length (filter (λ i. is_there (boundary_kind i n)) (range_with_len 0 (n + 1)))

module _ {T : Type 0} (b : Borders T) where
  -- where a row boundary meets a column boundary
  abbrev pub crossing : BoundaryKind → BoundaryKind → Option T
  crossing First First = b.top_left
  crossing First Between = b.top_intersection
  crossing First Last = b.top_right
  crossing Between First = b.left_intersection
  crossing Between Between = b.intersection
  crossing Between Last = b.right_intersection
  crossing Last First = b.bottom_left
  crossing Last Between = b.bottom_intersection
  crossing Last Last = b.bottom_right

  -- on a row boundary, along a column
  abbrev pub along_column : BoundaryKind → Option T
  along_column First = b.top
  along_column Between = b.horizontal
  along_column Last = b.bottom

  -- on a column boundary, in a row
  abbrev pub in_row : BoundaryKind → Option T
  in_row First = b.left
  in_row Between = b.vertical
  in_row Last = b.right

  -- a boundary is there where one of the glyphs that may be on it is set
  abbrev pub has_column_boundary : BoundaryKind → Bool
  has_column_boundary kind =
      is_some (in_row kind) || is_some (crossing First kind) || is_some (crossing Between kind) || is_some (crossing Last kind)

  abbrev pub has_row_boundary : BoundaryKind → Bool
  has_row_boundary kind =
      is_some (along_column kind) || is_some (crossing kind First) || is_some (crossing kind Between) || is_some (crossing kind Last)
