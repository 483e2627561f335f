use Rattle.std.proofs.Common.{◌∙◌, ◌++◌, ap, sym, string_bytes, length, ◌≤◌, arith}
use Rattle.std.specs.Option.{option_map}
use Rattle.std.proofs.lemmas.List.{at_drop_all}
use Rattle.std.proofs.lemmas.Result.{on_ok_weaker}
use Rattle.grid_config.specs.Colors.{color_of}
use Rattle.papergrid_cells.specs.Painting.{glyphs_behind}
use Rattle.papergrid_cells.proofs.PrintedGlyphs.{glyphs_behind_none}
use Rattle.papergrid_cells.proofs.painting.push_glyphs.Goals as goal

pub returns : goal.returns
returns c =
    let past : length c.args.glyphs.now ≤ c.loop-glyph.glyph-index = omega arith in
    on_ok_weaker c.change_color-2.result
    (λ last. last
    ∙ (ap (λ l. string_bytes c.loop-glyph.out ++ l) (sym (at_drop_all (glyphs_behind (option_map color_of c.loop-glyph.color)) c.args.glyphs.now c.loop-glyph.glyph-index past))
    ∙ (c.loop-glyph.invariant
    ∙ ap (λ l. string_bytes c.args.out.now ++ l) (glyphs_behind_none c.args.glyphs.now))))
    c.change_color-2.ensures
