-- What a cell shows in its rectangle: paddings, and between them the lines of its text. A part names what it shows, a
-- fill or a line of a cell, and does not copy it; so a block follows from settings and measures alone.
use Rattle.std.specs.Prelude.{ℕ, ◌-◌, ◌/◌, max, List, [], ◌∷◌, ◌++◌, Option, map, length, replicate, slice_index, if◌then◌else◌}
use Rattle.std.specs.List.{range_with_len}
use Rattle.grid_config_values.specs.declared.alignment.AlignmentHorizontal.{AlignmentHorizontal}
use Rattle.grid_config_values.specs.declared.alignment.AlignmentHorizontal.TheVariants.{Left, Center, Right}
use Rattle.grid_config_values.specs.declared.alignment.AlignmentVertical.{AlignmentVertical}
use Rattle.grid_config_values.specs.declared.alignment.AlignmentVertical.TheVariants.{Top, Center as Middle, Bottom}
use Rattle.grid_config_values.specs.declared.position.Position.{Position}
use Rattle.grid_config.specs.Colors.{Color}
use Rattle.papergrid_picture.specs.Frame.{Frame}

pub data Content : Type 0 where
  -- a character in each column
  Fill : ℕ → Content
  -- the same on a boundary line, where neighbours in one colour are coloured as one
  Glyph : ℕ → Content
  -- the line of a cell with this number, and after its last line nothing
  TextLine : Position → ℕ → Content

-- what is side by side with others in a line: content in `width` columns, and its colour
pub record Part : Type 0 where
  pub width : ℕ
  pub content : Content
  pub color : Option Color

-- a character in each of `width` columns
abbrev pub fill : ℕ → ℕ → Option Color → Part
fill width character color = record { width = width; content = Fill character; color = color }

-- a table by its tracks, what the lines of each cell measure, and the colours of its cells' texts
pub record Grid : Type 0 where
  pub frame : Frame
  pub measures : Position → List ℕ
  pub text_color : Position → Option Color

-- the greatest of the measures, and 0 where there is none
abbrev pub greatest : List ℕ → ℕ
greatest [] = 0
greatest (n ∷ ns) = max n (greatest ns)

-- how much of the free width is before a text; centred, it is the smaller half where the halves differ
abbrev pub free_left : AlignmentHorizontal → ℕ → ℕ
free_left Left free = 0
free_left Center free = free / 2
free_left Right free = free

-- how much of the free height is above it, likewise
abbrev pub free_above : AlignmentVertical → ℕ → ℕ
free_above Top free = 0
free_above Middle free = free / 2
free_above Bottom free = free

module _ (grid : Grid) (cell : Position) where
  -- a line of the cell's text in `width` columns: padding, free space before the line, the line, what is left, padding.
  -- With line alignment, what is free is counted for the line itself; else for the widest one
  abbrev pub text_line : ℕ → ℕ → List Part
  text_line width k =
      let look = grid.frame.look in
      let padding = look.padding cell in
      let padding_color = look.padding_color cell in
      let measure = slice_index (grid.measures cell) k in
      let room = width - padding.left.size - padding.right.size in
      let free_before_line = free_left (look.alignment_horizontal cell) (room - (if look.line_alignment cell then measure else greatest (grid.measures cell))) in
      fill padding.left.size padding.left.fill padding_color.left
      ∷ fill free_before_line (look.justification cell) (look.justification_color cell)
      ∷ record { width = measure; content = TextLine cell k; color = grid.text_color cell }
      ∷ fill (room - free_before_line - measure) (look.justification cell) (look.justification_color cell)
      ∷ fill padding.right.size padding.right.fill padding_color.right ∷ []

  -- the block by its lines: padding, free lines, the lines of the text, free lines, padding. A free line is a line of
  -- empty text. Where there are more lines than the rectangle is high, its first ones are seen
  abbrev pub block : ℕ → ℕ → List (List Part)
  block width height =
      let look = grid.frame.look in
      let padding = look.padding cell in
      let padding_color = look.padding_color cell in
      let count = length (grid.measures cell) in
      let free = height - padding.top.size - count - padding.bottom.size in
      let above = free_above (look.alignment_vertical cell) free in
      replicate padding.top.size (fill width padding.top.fill padding_color.top ∷ [])
      ++ (replicate above (text_line width count)
      ++ (map (text_line width) (range_with_len 0 count)
      ++ (replicate (free - above) (text_line width count)
      ++ replicate padding.bottom.size (fill width padding.bottom.fill padding_color.bottom ∷ []))))
