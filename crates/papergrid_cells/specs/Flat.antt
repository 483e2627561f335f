-- Rows, where the cells of a table have the same settings except for how lines are placed and trimmed: what comes
-- between their texts is the same in each.
use Rattle.std.specs.Prelude.{◌≡◌, ℕ, ◌+◌, ◌-◌, ◌<◌, ◌≤◌, ◌==◌, false, true, List, [], ◌∷◌, ◌++◌, Option, IfSome, None, Some, drop, length, slice_index_or, string_bytes, if◌then◌else◌}
use Rattle.std.specs.List.{slice_get}
use Rattle.std.specs.Option.{option_map}
use Rattle.std.specs.Str.{IsUtf8}
use Rattle.grid_config_values.specs.declared.alignment.AlignmentHorizontal.{AlignmentHorizontal}
use Rattle.grid_config_values.specs.declared.alignment.AlignmentHorizontal.TheVariants.{Left}
use Rattle.grid_config_values.specs.declared.position.Position.{Position}
use Rattle.grid_config_values.specs.Settings.{value_at}
use Rattle.grid_config.specs.Colors.{Color, color_of}
use Rattle.grid_config.specs.Looks.{Look}
use Rattle.grid_config.specs.Settings.{AreUniformButLines, Settings}
use Rattle.papergrid_picture.specs.Blocks.{free_left}
use Rattle.papergrid_picture.specs.Picture.{at}
use Rattle.papergrid_cells.specs.Boundaries.{upright_bytes}
use Rattle.papergrid_cells.specs.Painting.{colored, fill_bytes, prefix_of, suffix_of}
use Rattle.papergrid_cells.specs.Spaces.{HasSpaces}
use Rattle.papergrid_cells.specs.declared.empty_row.EmptyRow.{EmptyRow}
use Rattle.papergrid_cells.specs.declared.empty_row.Ink.{Ink}
use Rattle.papergrid_cells.specs.declared.empty_row.Ink.TheVariants.{Asked, Led, Uncolored}
use Rattle.papergrid_cells.specs.declared.empty_row.TextSlot.{TextSlot}
use Rattle.papergrid_cells.specs.declared.flat.FlatRows.{FlatRows}
use Rattle.papergrid_cells.specs.declared.spaced.Spaced.{Spaced}

-- the cell whose settings are taken as those of all cells
abbrev pub first_cell : Position
first_cell = at 0 0

-- all cells have the same settings except for how the lines of their texts are placed from left to right and trimmed,
-- and none spans several rows or columns, or is padded above or below
pub record AreEven (settings : Settings) : Type 0 where
  pub uniform : AreUniformButLines settings
  pub single : settings.spans ≡ []
  pub above : (value_at settings.padding first_cell).top.size ≡ 0
  pub below : (value_at settings.padding first_cell).bottom.size ≡ 0

-- no text is trimmed
pub record AreUntrimmed (look : Look) : Type 0 where
  pub trim_horizontal : (cell : Position) → look.trim_horizontal cell ≡ false
  pub trim_vertical : (cell : Position) → look.trim_vertical cell ≡ false

-- how texts are placed in their columns: between which paddings, at which side, and what fills what they leave free
pub record Standing : Type 0 where
  pub left : ℕ
  pub right : ℕ
  pub fill : ℕ
  pub fill_color : Option Color
  pub alignment : AlignmentHorizontal

abbrev pub standing : Look → Position → Standing
standing look cell = record {
  left = (look.padding cell).left.size;
  right = (look.padding cell).right.size;
  fill = look.justification cell;
  fill_color = look.justification_color cell;
  alignment = look.alignment_horizontal cell;
}

-- a line of this measure in a column of this width, between the paddings, placed as one that measures `counted`: what is
-- free before it, the line in its colour, and what is free after it
abbrev pub line_in_column : Standing → ℕ → ℕ → ℕ → Option Color → List ℕ → List ℕ
line_in_column stands width measure counted color line =
    let room = width - stands.left - stands.right in
    let free_before_line = free_left stands.alignment (room - counted) in
    let free : ℕ → List ℕ = λ n. colored stands.fill_color (fill_bytes stands.fill n) in
    free free_before_line ++ (colored color line ++ free (room - free_before_line - measure))

-- the text after the spaces that are kept with it
abbrev pub spaced_text : Spaced → List ℕ
spaced_text spaced = drop spaced.spaces (string_bytes spaced.text)

-- how texts of this alignment are placed in such rows
abbrev pub standing_of : FlatRows → AlignmentHorizontal → Standing
standing_of rows alignment = record {
  left = rows.left;
  right = rows.right;
  fill = rows.fill;
  fill_color = option_map color_of rows.fill_color;
  alignment = alignment;
}

module _ (look : Look) where
  abbrev pub left_margin : List ℕ
  left_margin = colored look.margin_color.left (fill_bytes look.margin.left.fill look.margin.left.size)

  abbrev pub right_margin : List ℕ
  right_margin = colored look.margin_color.right (fill_bytes look.margin.right.fill look.margin.right.size)

  -- the paddings of a cell
  abbrev pub left_padding : Position → List ℕ
  left_padding cell = colored (look.padding_color cell).left (fill_bytes (look.padding cell).left.fill (look.padding cell).left.size)

  abbrev pub right_padding : Position → List ℕ
  right_padding cell = colored (look.padding_color cell).right (fill_bytes (look.padding cell).right.fill (look.padding cell).right.size)

  -- where an alignment is given for a column, each cell of the column has it
  abbrev pub AreOfColumns : List AlignmentHorizontal → Type 0
  AreOfColumns alignments = (column : ℕ) → IfSome (slice_get alignments column) (λ one. (cell : Position) → cell.col ≡ column → look.alignment_horizontal cell ≡ one)

  -- what comes before the first line, between two, and after the last; the boundary and the padding before a line, and
  -- the padding after it; how lines are placed in their columns, and the alignment of all cells, or of a column's, where
  -- it is given; and whether no text is trimmed
  pub record AreFlatRows (columns : ℕ) (rows : FlatRows) : Type 0 where
    pub front : string_bytes rows.front ≡ left_margin ++ (upright_bytes look 0 columns ++ left_padding first_cell)
    pub between : spaced_text rows.between ≡ right_padding first_cell ++ (upright_bytes look 1 columns ++ left_padding first_cell)
    pub back : spaced_text rows.back ≡ right_padding first_cell ++ (upright_bytes look columns columns ++ right_margin)
    pub first_head : string_bytes rows.first_head ≡ upright_bytes look 0 columns ++ left_padding first_cell
    pub head : string_bytes rows.head ≡ upright_bytes look 1 columns ++ left_padding first_cell
    pub tail : spaced_text rows.tail ≡ right_padding first_cell
    pub standing : standing_of rows (look.alignment_horizontal first_cell) ≡ standing look first_cell
    pub alignment : IfSome rows.alignment (λ one. (cell : Position) → look.alignment_horizontal cell ≡ one)
    pub alignments : AreOfColumns rows.alignments.items
    pub untrimmed : rows.untrimmed ≡ true → AreUntrimmed look

  -- what comes after column boundary j of `columns`: the padding of the next cell, and after the last one the margin
  abbrev pub behind_boundary : ℕ → ℕ → List ℕ
  behind_boundary j columns = if j == columns then right_margin else left_padding first_cell

-- what comes after the text in column j of `columns`
abbrev pub behind_text : FlatRows → ℕ → ℕ → List ℕ
behind_text rows j columns = if j + 1 == columns then spaced_text rows.back else spaced_text rows.between

-- the boundary before column j, and the padding of its cell
abbrev pub head_bytes : FlatRows → ℕ → List ℕ
head_bytes rows j = if j == 0 then string_bytes rows.first_head else string_bytes rows.head

-- ---- the line of a row of empty cells

-- what it holds of a column's colour, and for how many other bytes of a colour it has spaces
abbrev pub led_bytes : Ink → List ℕ
led_bytes Uncolored = []
led_bytes (Led prefix suffix) = prefix.now
led_bytes (Asked shade) = []

abbrev pub kept_bytes : Ink → ℕ
kept_bytes Uncolored = 0
kept_bytes (Led prefix suffix) = length suffix.now
kept_bytes (Asked shade) = shade

-- the paddings beside texts, and what comes between two texts and after the last
pub record Joints : Type 0 where
  pub left : ℕ
  pub right : ℕ
  pub between : List ℕ
  pub back : List ℕ

abbrev pub joints_of : FlatRows → Joints
joints_of rows = record { left = rows.left; right = rows.right; between = spaced_text rows.between; back = spaced_text rows.back }

module _ (joints : Joints) where
  -- how many columns a text has in a column of this width
  abbrev pub room_in : ℕ → ℕ
  room_in width = width - joints.left - joints.right

  -- what comes after the text in column j of `columns`
  abbrev pub joint_behind : ℕ → ℕ → List ℕ
  joint_behind j columns = if j + 1 == columns then joints.back else joints.between

  module _ (inks : List Ink) where
    -- the line from column j of `columns` on, where these widths are left: the begin of a colour, spaces for the other
    -- bytes of a colour and for a text, and what comes after them
    abbrev pub empty_from : ℕ → ℕ → List ℕ → List ℕ
    empty_from columns j [] = []
    empty_from columns j (width ∷ widths) =
        let ink = slice_index_or inks j Uncolored in
        led_bytes ink ++ (fill_bytes 0x20 (kept_bytes ink) ++ (fill_bytes 0x20 (room_in width) ++ (joint_behind j columns ++ empty_from columns (j + 1) widths)))

    -- the slots in it, each after the begin of its colour
    abbrev pub slots_from : ℕ → ℕ → List ℕ → List TextSlot
    slots_from columns j [] = []
    slots_from columns j (width ∷ widths) =
        let ink = slice_index_or inks j Uncolored in
        record { width = room_in width; ink = ink; rest = length (empty_from columns j (width ∷ widths)) - length (led_bytes ink) } ∷ slots_from columns (j + 1) widths

-- the line of a row of empty cells in columns of these widths and inks, where spaces in no colour fill what texts leave
-- free
pub record IsEmptyRow (rows : FlatRows) (widths : List ℕ) (inks : List Ink) (empty : EmptyRow) : Type 0 where
  pub fill : rows.fill ≡ 0x20
  pub color : rows.fill_color ≡ None
  pub line : string_bytes empty.line ≡ string_bytes rows.front ++ empty_from (joints_of rows) inks (length widths) 0 widths
  pub slots : empty.slots.items ≡ slots_from (joints_of rows) inks (length widths) 0 widths

-- the colours of a column's cells, by their rows, are as this ink says, in rows whose alignment is given or not: none
-- has one; or each has that of these texts, and all texts are at the left; or so many bytes are those of the colour in
-- the second row
abbrev pub IsInk : Option AlignmentHorizontal → (ℕ → Option Color) → Ink → Type 0
IsInk alignment colors Uncolored = (row : ℕ) → colors row ≡ None
IsInk alignment colors (Led prefix suffix) =
    ((row : ℕ) → colors row ≡ Some (record { prefix = prefix.now; suffix = suffix.now })) × ((alignment ≡ Some Left) × IsUtf8 prefix.now)
IsInk alignment colors (Asked shade) = shade ≡ length (prefix_of (colors 1)) + length (suffix_of (colors 1))

-- the inks of the first columns
pub record AreInks (alignment : Option AlignmentHorizontal) (colors : Position → Option Color) (columns : ℕ) (inks : List Ink) : Type 0 where
  pub count : length inks ≡ columns
  pub each : (j : ℕ) → j < columns → IsInk alignment (λ row. colors (at row j)) (slice_index_or inks j Uncolored)

-- the line of a row of empty cells in a table of these colours
abbrev pub IsSomeEmptyRow : FlatRows → (Position → Option Color) → List ℕ → EmptyRow → Type 0
IsSomeEmptyRow rows colors widths empty = (inks : List Ink) × (IsEmptyRow rows widths inks empty × AreInks rows.alignment colors (length widths) inks)

abbrev pub IsEmptyRowOrNone : (Position → Option Color) → List ℕ → FlatRows → Type 0
IsEmptyRowOrNone colors widths rows = IfSome rows.empty (IsSomeEmptyRow rows colors widths)

-- ---- a row that is appended by that line, piece by piece, with texts between

-- what is left of the line has the slot of a column: `middle` is before that column, and a text after its spaces
pub record HasSlot (left : List ℕ) (slot : TextSlot) : Type 0 where
  pub middle : List ℕ
  pub spaces : HasSpaces left (length left - slot.rest) (kept_bytes slot.ink + slot.width)
  pub front : spaces.before ≡ middle ++ led_bytes slot.ink
  pub lead : IsUtf8 (led_bytes slot.ink)
  pub inside : slot.rest ≤ length left

-- the slot is that of a column of this width, in rows whose texts leave spaces free
pub record IsSlotOf (rows : FlatRows) (width : ℕ) (slot : TextSlot) : Type 0 where
  pub fill : rows.fill ≡ 0x20
  pub color : rows.fill_color ≡ None
  pub room : slot.width ≡ room_in (joints_of rows) width

-- what was appended goes on with what is left: together they are `front`, and after it `behind`, which is not appended
-- yet
pub record GoesOn (bytes left front behind : List ℕ) : Type 0 where
  pub middle : List ℕ
  pub parts : left ≡ middle ++ behind
  pub shows : bytes ++ middle ≡ front
