-- What a picture shows, in the items of a reading: bytes, characters, or characters with styles.
use Rattle.std.specs.Prelude.{ℕ, ◌==◌, ◌&&◌, not, Bool, true, false, List, [], ◌∷◌, ◌++◌, Option, None, Some, flat_map, replicate, bytes_eq, if◌then◌else◌}
use Rattle.std.specs.List.{filter, range_with_len}
use Rattle.grid_config_values.specs.declared.position.Position.{Position}
use Rattle.grid_config.specs.Colors.{Color}
use Rattle.papergrid_picture.specs.Frame.{line_count}
use Rattle.papergrid_picture.specs.Blocks.{Content, Fill, Glyph, TextLine, Part, Grid}
use Rattle.papergrid_picture.specs.Picture.{parts_of, picture_line}

-- how a character becomes items, what a line of a cell shows, and how items are coloured
pub record Reading (X : Type 0) : Type 0 where
  pub item : ℕ → List X
  pub line : Position → ℕ → List X
  pub paint : Color → List X → List X

-- ---- runs of one colour

-- a glyph of a boundary line
abbrev pub is_glyph : Content → Bool
is_glyph (Fill c) = false
is_glyph (Glyph c) = true
is_glyph (TextLine cell k) = false

-- both are set to the same, or neither is set
abbrev pub same_color : Option Color → Option Color → Bool
same_color None None = true
same_color None (Some b) = false
same_color (Some a) None = false
same_color (Some a) (Some b) = bytes_eq a.prefix b.prefix && bytes_eq a.suffix b.suffix

-- a glyph along a column of width 0 is none
abbrev pub is_drawn : Part → Bool
is_drawn part = not (is_glyph part.content && part.width == 0)

-- two glyphs in one colour
abbrev pub continues : Part → Part → Bool
continues a b = is_glyph a.content && (is_glyph b.content && same_color a.color b.color)

-- parts in runs: neighbouring glyphs of a boundary line in one colour, every other part alone
abbrev pub onto_color_runs : Part → List (List Part) → List (List Part)
onto_color_runs part [] = (part ∷ []) ∷ []
onto_color_runs part ([] ∷ runs) = (part ∷ []) ∷ runs
onto_color_runs part ((next ∷ run) ∷ runs) = if continues part next then (part ∷ next ∷ run) ∷ runs else (part ∷ []) ∷ (next ∷ run) ∷ runs

abbrev pub color_runs : List Part → List (List Part)
color_runs [] = []
color_runs (part ∷ parts) = onto_color_runs part (color_runs parts)

-- ---- items

module _ {X : Type 0} (reading : Reading X) where
  -- content in `width` columns; a line of a cell is its own
  abbrev pub content_items : Content → ℕ → List X
  content_items (Fill c) width = flat_map reading.item (replicate width c)
  content_items (Glyph c) width = flat_map reading.item (replicate width c)
  content_items (TextLine cell k) width = reading.line cell k

  abbrev pub part_items : Part → List X
  part_items part = content_items part.content part.width

  -- no items stay no items; others take the colour
  abbrev pub painted : Option Color → List X → List X
  painted None items = items
  painted (Some color) [] = []
  painted (Some color) (item ∷ items) = reading.paint color (item ∷ items)

  -- a run is coloured as one
  abbrev pub run_items : List Part → List X
  run_items [] = []
  run_items (part ∷ parts) = painted part.color (flat_map part_items (part ∷ parts))

  -- a line of parts
  abbrev pub line_items : List Part → List X
  line_items parts = flat_map run_items (color_runs (filter is_drawn parts))

  -- line y of a picture
  abbrev pub grid_line : Grid → ℕ → List X
  grid_line grid y = line_items (parts_of (picture_line grid y))

  -- the first n lines of a picture, a line feed between each two
  abbrev pub grid_lines : Grid → ℕ → List X
  grid_lines grid n = flat_map (λ y. (if y == 0 then [] else reading.item 0x0a) ++ grid_line grid y) (range_with_len 0 n)

  -- the picture: all its lines
  abbrev pub grid_items : Grid → List X
  grid_items grid = grid_lines grid (line_count grid.frame)
