use Rattle.std.proofs.Common.{◌≡◌, ◌++◌, string_bytes, drop}
use Rattle.std.specs.Option.{option_map}
use Rattle.grid_config.specs.Colors.{color_of}
use Rattle.papergrid_cells.specs.Painting.{glyphs_behind}
use Rattle.std.specs.Prelude.{None}
use Rattle.papergrid_cells.proofs.painting.push_glyphs.Given as goal

abbrev pub invariant-loop-glyph : goal.invariant-loop-glyph
invariant-loop-glyph l =
    string_bytes l.out ++ glyphs_behind (option_map color_of l.color) (drop l.glyph-index l.glyphs)
    ≡ string_bytes l.fn.out ++ glyphs_behind None l.glyphs
