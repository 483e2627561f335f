-- What is printed in a colour.
use Rattle.std.specs.Prelude.{ℕ, ◌==◌, ◌++◌, Bool, List, [], ◌∷◌, Option, None, Some, encode_utf8, flat_map, is_none, replicate, if◌then◌else◌}
use Rattle.std.specs.List.{list_all}
use Rattle.std.specs.Option.{option_map}
use Rattle.grid_config.specs.Colors.{Color, color_of}
use Rattle.papergrid_picture.specs.Blocks.{Part, Glyph}
use Rattle.papergrid_picture.specs.Reading.{Reading, painted, same_color}
use Rattle.papergrid_picture.specs.Tables.{in_color}
use Rattle.papergrid_cells.specs.declared.painting.GlyphRun.{GlyphRun}

-- bytes, of a table without cells
abbrev pub without_cells : Reading ℕ
without_cells = record { item = encode_utf8; line = λ _ _. []; paint = in_color }

-- bytes in a colour, where there are any
abbrev pub colored : Option Color → List ℕ → List ℕ
colored color bytes = painted without_cells color bytes

-- a character `width` times
abbrev pub fill_bytes : ℕ → ℕ → List ℕ
fill_bytes character width = flat_map encode_utf8 (replicate width character)

-- a glyph as a part of a boundary line
abbrev pub glyph_part : GlyphRun → Part
glyph_part glyph = record { width = glyph.width; content = Glyph glyph.character; color = option_map color_of glyph.color }

-- no glyph has a colour
abbrev pub are_uncolored : List GlyphRun → Bool
are_uncolored glyphs = list_all (λ (glyph : GlyphRun). is_none glyph.color) glyphs

-- ---- from one colour to the next

abbrev pub prefix_of : Option Color → List ℕ
prefix_of None = []
prefix_of (Some color) = color.prefix

abbrev pub suffix_of : Option Color → List ℕ
suffix_of None = []
suffix_of (Some color) = color.suffix

-- the end of one colour and the beginning of the next; nothing between equal ones
abbrev pub color_change : Option Color → Option Color → List ℕ
color_change before next = if same_color before next then [] else suffix_of before ++ prefix_of next

-- glyphs after a colour that was begun: each begins its own colour where that differs, and the last colour is ended
abbrev pub glyphs_behind : Option Color → List GlyphRun → List ℕ
glyphs_behind color [] = color_change color None
glyphs_behind color (glyph ∷ glyphs) =
    if glyph.width == 0 then glyphs_behind color glyphs
    else color_change color (option_map color_of glyph.color) ++ (fill_bytes glyph.character glyph.width ++ glyphs_behind (option_map color_of glyph.color) glyphs)
