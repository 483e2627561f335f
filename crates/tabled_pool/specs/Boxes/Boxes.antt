-- The boxes of a pool: how large one is by itself, and what it shows in each line of the place that it gets.
use Rattle.std.specs.Prelude.{ℕ, ◌+◌, ◌-◌, ◌==◌, nat_lt, Bool, false, None, List, [], ◌∷◌, ◌++◌, flat_map, length, map, replicate, slice_index, slice_index_or, if◌then◌else◌}
use Rattle.std.specs.List.{sum_by}
use Rattle.grid_config.specs.Looks.{Look}
use Rattle.grid_config_values.specs.Glyphs.{BoundaryKind, First, Between, has_column_boundary, has_row_boundary}
use Rattle.papergrid_picture.specs.Frame.{frame_of, thickness}
use Rattle.papergrid_picture.specs.Picture.{at, blank}
use Rattle.papergrid_picture.specs.Blocks.{Part, fill, free_above, free_left, greatest, text_line, Grid}
use Rattle.papergrid_picture.specs.CellLines.{cell_lines, cell_measures}
use Rattle.papergrid_cells.specs.BlockLines.{part_bytes}
use Rattle.tabled_size.specs.Dimension.Takers.{Takers}
use Rattle.tabled_pool.specs.Boxes.Shares.{share}
use Rattle.tabled_pool.specs.Boxes.Values.{Nesting, Text, Beside, Stacked, Nestings, NoMore, Member}

-- what is side by side in a line
pub data BoxPart : Type 0 where
  -- bytes, in so many columns
  Shown : ℕ → List ℕ → BoxPart
  -- one column of an upright line: of the left side, between two members of a row, or of the right side
  Upright : BoundaryKind → BoxPart
  -- so many columns of a horizontal line: of the top, between two members of a column, or of the bottom
  Horizontal : BoundaryKind → ℕ → BoxPart

-- how wide and how high a box is by itself; and what it shows in line y of a place of this width and height,
-- where these take what is left over
pub record Box : Type 0 where
  pub width : ℕ
  pub height : ℕ
  pub line : Takers → ℕ → ℕ → ℕ → List BoxPart

-- the first n lines, and nothing below them
abbrev pub first_lines : ℕ → (ℕ → List BoxPart) → ℕ → List BoxPart
first_lines n line y = if nat_lt y n then line y else []

-- the same lines from line `top` on
abbrev pub from_line : ℕ → (ℕ → List BoxPart) → ℕ → List BoxPart
from_line top line y = if nat_lt y top then [] else line (y - top)

-- how many columns or lines come before member i: none before the first
abbrev pub gap : Bool → ℕ → ℕ
gap is_there i = if i == 0 then 0 else thickness is_there

-- and between n members
abbrev pub gaps : Bool → ℕ → ℕ
gaps is_there n = if is_there then n - 1 else 0

module _ (look : Look) where
  -- a line is between two members where the left side, or the top, has one
  abbrev pub has_upright : Bool
  has_upright = has_column_boundary look.borders First

  abbrev pub has_horizontal : Bool
  has_horizontal = has_row_boundary look.borders First

  -- ---- cells

  -- a cell in a table of its own, whose lines measure this
  abbrev pub alone : List ℕ → Grid
  alone measures = record { frame = frame_of look [] []; measures = λ _. measures; text_color = λ _. None }

  -- how many of `room` columns come before line k of a text: with line alignment by the line itself,
  -- and else by the widest one
  abbrev pub free_before_line : List ℕ → ℕ → ℕ → ℕ
  free_before_line measures room k = free_left (look.alignment_horizontal (at 0 0)) (room - (if look.line_alignment (at 0 0) then slice_index measures k else greatest measures))

  abbrev pub spaces : ℕ → List Part
  spaces width = fill width blank None ∷ []

  -- how high it is by itself: its lines with the paddings above and below
  abbrev pub cell_height : List ℕ → ℕ
  cell_height measures = length measures + (look.padding (at 0 0)).top.size + (look.padding (at 0 0)).bottom.size

  -- line y of a cell: free lines by its vertical alignment, padding, the lines of the text, padding, free lines
  abbrev pub cell_parts : List ℕ → ℕ → ℕ → ℕ → List Part
  cell_parts measures width height y =
      let padding = look.padding (at 0 0) in
      let color = look.padding_color (at 0 0) in
      let above = free_above (look.alignment_vertical (at 0 0)) (height - cell_height measures) in
      let inner = y - above in
      if nat_lt y above then spaces width
      else if nat_lt inner padding.top.size then fill width padding.top.fill color.top ∷ []
      else if nat_lt (inner - padding.top.size) (length measures) then text_line (alone measures) (at 0 0) width (inner - padding.top.size)
      else if nat_lt (inner - padding.top.size - length measures) padding.bottom.size then fill width padding.bottom.fill color.bottom ∷ []
      else spaces width

  -- the same in bytes
  abbrev pub cell_bytes : List ℕ → List (List ℕ) → ℕ → ℕ → ℕ → List ℕ
  cell_bytes measures lines width height y = flat_map (part_bytes (λ k. slice_index_or lines k [])) (cell_parts measures width height y)

  -- lines of a text, which measure this, with their paddings; without a column they show nothing
  abbrev pub cell_box : List ℕ → List (List ℕ) → Box
  cell_box measures lines =
      let padding = look.padding (at 0 0) in
      record {
        width = greatest measures + padding.left.size + padding.right.size;
        height = cell_height measures;
        line = λ takers width height y. if width == 0 then [] else first_lines height (λ y. Shown width (cell_bytes measures lines width height y) ∷ []) y;
      }

  -- a text by all its lines, as they are
  abbrev pub text_box : List ℕ → Box
  text_box text = cell_box (cell_measures false false text) (cell_lines false false text)

  -- ---- rows

  abbrev pub row_width : List Box → ℕ
  row_width boxes = sum_by (λ box. box.width) boxes + gaps has_upright (length boxes)

  -- one column of an upright line before each member but the first
  abbrev pub upright_before : ℕ → ℕ → ℕ → List BoxPart
  upright_before i height y = first_lines height (λ _. replicate (gap has_upright i) (Upright Between)) y

  -- line y of the members from member i on. Each has the row's height, and its own width with its
  -- share of what is left over
  abbrev pub row_from : Takers → ℕ → ℕ → ℕ → ℕ → ℕ → List Box → List BoxPart
  row_from takers n beyond height y i [] = []
  row_from takers n beyond height y i (box ∷ boxes) =
      upright_before i height y
      ++ (box.line takers (box.width + share takers.width beyond n i) height y
      ++ row_from takers n beyond height y (i + 1) boxes)

  -- members side by side
  abbrev pub row_box : List Box → Box
  row_box boxes = record {
    width = row_width boxes;
    height = greatest (map (λ box. box.height) boxes);
    line = λ takers width height y. row_from takers (length boxes) (width - row_width boxes) height y 0 boxes;
  }

  -- ---- columns

  abbrev pub column_height : List Box → ℕ
  column_height boxes = sum_by (λ box. box.height) boxes + gaps has_horizontal (length boxes)

  -- a horizontal line before each member but the first
  abbrev pub horizontal_before : ℕ → ℕ → ℕ → List BoxPart
  horizontal_before i width y = first_lines (gap has_horizontal i) (λ _. Horizontal Between width ∷ []) y

  -- line y of the members from member i on, which begins at line `top`. Each has the column's width, and its own height
  -- with its share of what is left over
  abbrev pub column_from : Takers → ℕ → ℕ → ℕ → ℕ → ℕ → ℕ → List Box → List BoxPart
  column_from takers n beyond width y i top [] = []
  column_from takers n beyond width y i top (box ∷ boxes) =
      let below = top + gap has_horizontal i in
      let height = box.height + share takers.height beyond n i in
      from_line top (horizontal_before i width) y
      ++ (from_line below (box.line takers width height) y
      ++ column_from takers n beyond width y (i + 1) (below + height) boxes)

  -- members one below the other
  abbrev pub column_box : List Box → Box
  column_box boxes = record {
    width = greatest (map (λ box. box.width) boxes);
    height = column_height boxes;
    line = λ takers width height y. column_from takers (length boxes) (height - column_height boxes) width y 0 0 boxes;
  }

  -- ---- nestings

  -- without a member a row or a column is a cell without text
  abbrev pub of_members : (List Box → Box) → List Box → Box
  of_members box [] = text_box []
  of_members box (first ∷ boxes) = box (first ∷ boxes)

  abbrev mutual
    pub box_of : Nesting → Box
    box_of (Text text) = text_box text
    box_of (Beside nestings) = of_members row_box (boxes_of nestings)
    box_of (Stacked nestings) = of_members column_box (boxes_of nestings)

    pub boxes_of : Nestings → List Box
    boxes_of NoMore = []
    boxes_of (Member nesting nestings) = box_of nesting ∷ boxes_of nestings
