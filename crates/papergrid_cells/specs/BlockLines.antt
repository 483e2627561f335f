-- The lines of a cell's rectangle, by the cell alone.
use Rattle.std.specs.Prelude.{ℕ, ◌-◌, nat_lt, Bool, false, true, List, [], ◌∷◌, ◌++◌, flat_map, slice_index, slice_index_or, if◌then◌else◌}
use Rattle.std.specs.Option.{option_map}
use Rattle.grid_config_values.specs.declared.position.Position.{Position}
use Rattle.grid_config.specs.Colors.{color_of}
use Rattle.grid_config.specs.Looks.{Look}
use Rattle.papergrid_picture.specs.Frame.{frame_of}
use Rattle.papergrid_picture.specs.Blocks.{Content, Fill, Glyph, TextLine, Part, Grid, fill, free_above, free_left, text_line}
use Rattle.papergrid_cells.specs.Painting.{colored, fill_bytes}
use Rattle.papergrid_cells.specs.Shown.{counted_columns, measures_of, texts_of}
use Rattle.papergrid_cells.specs.declared.block.BlockLine.{BlockLine}
use Rattle.papergrid_cells.specs.declared.block.BlockLine.TheVariants.{Above, Text, Below, Outside}
use Rattle.papergrid_cells.specs.declared.block.OpenCell.{OpenCell}

-- line k of paddings above and below, free lines, and lines of a text between them; after the last line of the text
-- comes the empty text
abbrev pub kind_at : ℕ → ℕ → ℕ → ℕ → ℕ → ℕ → BlockLine
kind_at top above count below bottom k =
    if nat_lt k top then Above
    else if nat_lt (k - top) above then Text count
    else if nat_lt (k - top - above) count then Text (k - top - above)
    else if nat_lt (k - top - above - count) below then Text count
    else if nat_lt (k - top - above - count - below) bottom then Below
    else Outside

-- line k of the rectangle of a cell of `count` lines
abbrev pub block_line_at : Look → Position → ℕ → ℕ → ℕ → BlockLine
block_line_at look cell count height k =
    let padding = look.padding cell in
    let free = height - padding.top.size - count - padding.bottom.size in
    let above = free_above (look.alignment_vertical cell) free in
    kind_at padding.top.size above count (free - above) padding.bottom.size k

-- what such a line shows
abbrev pub line_parts : Grid → Position → ℕ → BlockLine → List Part
line_parts grid cell width Above = fill width (grid.frame.look.padding cell).top.fill (grid.frame.look.padding_color cell).top ∷ []
line_parts grid cell width (Text k) = text_line grid cell width k
line_parts grid cell width Below = fill width (grid.frame.look.padding cell).bottom.fill (grid.frame.look.padding_color cell).bottom ∷ []
line_parts grid cell width Outside = []

-- nothing is shown
abbrev pub is_outside : BlockLine → Bool
is_outside Above = false
is_outside (Text k) = false
is_outside Below = false
is_outside Outside = true

-- a cell in a table of its own
abbrev pub alone : Look → OpenCell → Grid
alone look shown = record { frame = frame_of look [] []; measures = λ _. measures_of shown.lines; text_color = λ _. option_map color_of shown.color }

abbrev pub text_of : OpenCell → ℕ → List ℕ
text_of shown k = slice_index_or (texts_of shown.lines) k []

abbrev pub content_bytes : (ℕ → List ℕ) → Content → ℕ → List ℕ
content_bytes text (Fill c) width = fill_bytes c width
content_bytes text (Glyph c) width = fill_bytes c width
content_bytes text (TextLine cell k) width = text k

-- a part, where the lines of the cell are these
abbrev pub part_bytes : (ℕ → List ℕ) → Part → List ℕ
part_bytes text part = colored part.color (content_bytes text part.content part.width)

-- how many of the free columns are before line k
abbrev pub free_before_line : Look → OpenCell → ℕ → ℕ → ℕ
free_before_line look shown room k = free_left (look.alignment_horizontal shown.pos) (room - counted_columns (look.line_alignment shown.pos) (measures_of shown.lines) k)

-- line k between the paddings: what is free before it, the line, and what is free after it
abbrev pub justified : Look → OpenCell → ℕ → ℕ → List ℕ
justified look shown room k =
    let blank : ℕ → List ℕ = λ width. colored (look.justification_color shown.pos) (fill_bytes (look.justification shown.pos) width) in
    blank (free_before_line look shown room k)
    ++ (colored (option_map color_of shown.color) (text_of shown k)
    ++ blank (room - free_before_line look shown room k - slice_index (measures_of shown.lines) k))

-- a line of a cell's rectangle
abbrev pub alone_bytes : Look → OpenCell → BlockLine → List ℕ
alone_bytes look shown line = flat_map (part_bytes (text_of shown)) (line_parts (alone look shown) shown.pos shown.width line)
