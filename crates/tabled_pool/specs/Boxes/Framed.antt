-- The lines of a box in its frame.
use Rattle.std.specs.Prelude.{ℕ, ◌+◌, ◌^◌, ◌≤◌, max, List, [], ◌∷◌, ◌++◌, map, replicate}
use Rattle.std.specs.List.{range_with_len}
use Rattle.grid_config.specs.Looks.{Look}
use Rattle.grid_config_values.specs.Glyphs.{BoundaryKind, First, Last, has_column_boundary, has_row_boundary}
use Rattle.papergrid_picture.specs.Frame.{thickness}
use Rattle.tabled_size.specs.Dimension.Takers.{Takers}
use Rattle.tabled_pool.specs.Boxes.Boxes.{Box, BoxPart, Upright, Horizontal, first_lines, from_line}

-- the sides, and the lines above and below, are drawn once, where they are there
module _ (look : Look) where
  abbrev pub left_side : ℕ
  left_side = thickness (has_column_boundary look.borders First)

  abbrev pub right_side : ℕ
  right_side = thickness (has_column_boundary look.borders Last)

  abbrev pub top_line : ℕ
  top_line = thickness (has_row_boundary look.borders First)

  abbrev pub bottom_line : ℕ
  bottom_line = thickness (has_row_boundary look.borders Last)

module _ (look : Look) (box : Box) where
  abbrev pub framed_width : ℕ
  framed_width = left_side look + box.width + right_side look

  abbrev pub framed_height : ℕ
  framed_height = top_line look + box.height + bottom_line look

  -- the width or the height is out of the range of `usize`
  abbrev pub IsFrameTooLarge : Type 0
  IsFrameTooLarge = 2 ^ 64 ≤ max framed_width framed_height

-- a side of so many columns, beside each line of the box
abbrev pub side : Box → ℕ → BoundaryKind → ℕ → List BoxPart
side box columns kind y = first_lines box.height (λ _. replicate columns (Upright kind)) y

-- so many lines over a whole width
abbrev pub outer_horizontal : ℕ → ℕ → BoundaryKind → ℕ → List BoxPart
outer_horizontal width lines kind y = first_lines lines (λ _. Horizontal kind width ∷ []) y

module _ (look : Look) (takers : Takers) (box : Box) where
  -- line y of the box, between the sides
  abbrev pub between_sides : ℕ → List BoxPart
  between_sides y = side box (left_side look) First y ++ (box.line takers box.width box.height y ++ side box (right_side look) Last y)

  -- line y of the frame
  abbrev pub framed_line : ℕ → List BoxPart
  framed_line y =
      outer_horizontal (framed_width look box) (top_line look) First y
      ++ (from_line (top_line look) between_sides y
      ++ from_line (top_line look + box.height) (outer_horizontal (framed_width look box) (bottom_line look) Last) y)

  -- all lines
  abbrev pub framed_lines : List (List BoxPart)
  framed_lines = map framed_line (range_with_len 0 (framed_height look box))
