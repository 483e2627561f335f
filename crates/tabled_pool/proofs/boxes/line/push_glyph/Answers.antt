use Rattle.std.proofs.Common.{◌≡◌, ◌++◌, [], ◌∷◌, List, map, ap, subst, sym, ◌∙◌}
use Rattle.std.specs.Prelude.{string_bytes}
use Rattle.std.proofs.lemmas.Result.{on_ok_weaker}
use Rattle.papergrid_cells.specs.Painting.{without_cells, glyph_part}
use Rattle.papergrid_cells.specs.declared.painting.GlyphRun.{GlyphRun}
use Rattle.papergrid_picture.specs.Reading.{line_items}
use Rattle.tabled_pool.specs.Boxes.Crossings.{Shape}
use Rattle.tabled_pool.specs.Boxes.Glyphs.{found_shape}
use Rattle.tabled_pool.specs.Boxes.Runs.{text_with}
use Rattle.tabled_pool.proofs.BoxesLemmas.Runs.{one-printed, with-alone}
use Rattle.tabled_pool.proofs.boxes.line.push_glyph.Goals as goal

pub returns : goal.returns
returns c =
    let out = string_bytes c.args.out.now in
    let mid = string_bytes c.push_glyphs.new.out in
    let new = string_bytes c.push_glyphs-2.new.out in
    let held = c.args.held.now.items in
    let shape : Shape = found_shape c.args.glyph in
    let run : GlyphRun = record { character = c.args.glyph.character; width = 1; color = c.args.glyph.color } in
    let first : mid ≡ out ++ line_items without_cells (map glyph_part held) =
    c.in_ok-push_glyphs.ensures ∙ ap (λ h. out ++ line_items without_cells (map glyph_part h)) c.deref.ensures.value in
    on_ok_weaker {P = new ≡ mid ++ line_items without_cells (map glyph_part (run ∷ []))} {Q = (behind : List Shape) → text_with new c.clear.new.self.items behind ≡ text_with out held (shape ∷ behind)} c.push_glyphs-2.result
    (λ printed behind.
    subst (λ h. text_with new h behind ≡ text_with out held (shape ∷ behind)) (sym c.clear.ensures.items)
    (with-alone shape c.if-glyph.false out mid new held first (printed ∙ ap (λ l. mid ++ l) (one-printed c.args.glyph.character c.args.glyph.color)) behind))
    c.push_glyphs-2.ensures
