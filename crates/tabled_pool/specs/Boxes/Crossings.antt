-- Which glyphs are where the lines of a pool cross.
use Rattle.std.specs.Prelude.{ℕ, ◌+◌, ◌-◌, ◌==◌, ◌||◌, not, Bool, true, false, Option, None, List, [], ◌∷◌, ◌++◌, encode_utf8, flat_map, map, replicate, slice_index_or, unwrap_or, if◌then◌else◌}
use Rattle.std.specs.List.{range_with_len}
use Rattle.grid_config.specs.Colors.{Color}
use Rattle.grid_config.specs.Looks.{Look}
use Rattle.grid_config_values.specs.Glyphs.{BoundaryKind, First, Between, Last, along_column, crossing, in_row}
use Rattle.papergrid_picture.specs.Picture.{blank}
use Rattle.tabled_pool.specs.Boxes.Boxes.{BoxPart, Shown, Upright, Horizontal}
use Rattle.tabled_pool.specs.declared.boxes.marks.Mark.{Mark}
use Rattle.tabled_pool.specs.declared.boxes.marks.Mark.TheVariants.{Open, Up, Flat}

-- ---- what is in each column

-- how many columns a part takes
abbrev pub part_width : BoxPart → ℕ
part_width (Shown width bytes) = width
part_width (Upright kind) = 1
part_width (Horizontal kind width) = width

-- a mark for each of them: no line, an upright one, or a horizontal one
abbrev pub part_mark : BoxPart → Mark
part_mark (Shown width bytes) = Open
part_mark (Upright kind) = Up
part_mark (Horizontal kind width) = Flat

abbrev pub marks : List BoxPart → List Mark
marks parts = flat_map (λ part. replicate (part_width part) (part_mark part)) parts

abbrev pub is_line : Mark → Bool
is_line Open = false
is_line Up = true
is_line Flat = true

abbrev pub is_up : Mark → Bool
is_up Open = false
is_up Up = true
is_up Flat = false

abbrev pub is_flat : Mark → Bool
is_flat Open = false
is_flat Up = false
is_flat Flat = true

-- what is in column x of a line, and outside no line
abbrev pub mark_at : List Mark → ℕ → Mark
mark_at line x = slice_index_or line x Open

-- what is before column x
abbrev pub mark_before : List Mark → ℕ → Mark
mark_before line x = if x == 0 then Open else mark_at line (x - 1)

-- ---- glyphs

-- a glyph of a line, or bytes of a cell: glyphs that join in one colour are coloured as one
pub record Shape : Type 0 where
  pub bytes : List ℕ
  pub color : Option Color
  pub joins : Bool

-- a glyph and its colour, a space where none is set
abbrev pub glyph : Option ℕ → Option Color → Bool → Shape
glyph character color joins = record { bytes = encode_utf8 (unwrap_or character blank); color = color; joins = joins }

-- which boundary it is, by whether lines go on before it and after it. It is the first where none goes on before it,
-- and the last where one does there alone
abbrev pub kind_between : Bool → Bool → BoundaryKind
kind_between before behind = if not before then First else if not behind then Last else Between

-- what is in each column of the line above, of the line itself, and of the line below
pub record Around : Type 0 where
  pub above : List Mark
  pub here : List Mark
  pub below : List Mark

module _ (look : Look) where
  -- where lines meet is the glyph of the table of glyphs from which lines go on to the same sides
  abbrev pub crossing_glyph : Bool → Bool → Bool → Bool → Shape
  crossing_glyph up down left right =
      let row = kind_between up down in
      let column = kind_between left right in
      glyph (crossing look.borders row column) (crossing look.borders_color row column) true

module _ (look : Look) (around : Around) where
  -- an upright line at column x: a horizontal line that touches it makes it a crossing
  abbrev pub upright_glyph : BoundaryKind → ℕ → Shape
  upright_glyph kind x =
      let left = is_flat (mark_before around.here x) in
      let right = is_flat (mark_at around.here (x + 1)) in
      if left || right
      then crossing_glyph look (is_line (mark_at around.above x)) (is_line (mark_at around.below x)) left right
      else glyph (in_row look.borders kind) (in_row look.borders_color kind) false

  -- a horizontal line at column x: an upright line that touches it makes it a crossing
  abbrev pub horizontal_glyph : BoundaryKind → ℕ → Shape
  horizontal_glyph kind x =
      let up = is_up (mark_at around.above x) in
      let down = is_up (mark_at around.below x) in
      if up || down
      then crossing_glyph look up down (is_line (mark_before around.here x)) (is_line (mark_at around.here (x + 1)))
      else glyph (along_column look.borders kind) (along_column look.borders_color kind) true

  -- a part that begins at column x
  abbrev pub part_shapes : ℕ → BoxPart → List Shape
  part_shapes x (Shown width bytes) = record { bytes = bytes; color = None; joins = false } ∷ []
  part_shapes x (Upright kind) = upright_glyph kind x ∷ []
  part_shapes x (Horizontal kind width) = map (horizontal_glyph kind) (range_with_len x width)

  -- parts from column x on
  abbrev pub shapes_from : ℕ → List BoxPart → List Shape
  shapes_from x [] = []
  shapes_from x (part ∷ parts) = part_shapes x part ++ shapes_from (x + part_width part) parts
