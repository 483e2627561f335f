-- Glyphs as the program holds them.
use Rattle.grid_config.specs.Colors.{color_of}
use Rattle.std.specs.Option.{option_map}
use Rattle.std.specs.Prelude.{encode_utf8}
use Rattle.tabled_pool.specs.Boxes.Crossings.{Around, Shape}
use Rattle.tabled_pool.specs.declared.boxes.glyphs.Around.{Around as HeldAround}
use Rattle.tabled_pool.specs.declared.boxes.glyphs.Glyph.{Glyph}

abbrev pub around_of : HeldAround → Around
around_of around = record { above = around.above.items; here = around.here.items; below = around.below.items }

abbrev pub found_shape : Glyph → Shape
found_shape glyph = record { bytes = encode_utf8 glyph.character; color = option_map color_of glyph.color; joins = glyph.joins }
