use Rattle.std.proofs.Common.{◌≡◌, ◌++◌, length, map, ap, sym, ◌∙◌, append-nil, arith}
use Rattle.std.specs.Prelude.{string_bytes}
use Rattle.std.proofs.lemmas.Result.{on_ok_weaker}
use Rattle.grid_config.specs.Looks.{look_of}
use Rattle.papergrid_cells.specs.Painting.{without_cells, glyph_part}
use Rattle.papergrid_picture.specs.Reading.{line_items}
use Rattle.tabled_pool.specs.Boxes.Canvas.{box_part}
use Rattle.tabled_pool.specs.Boxes.Crossings.{shapes_from}
use Rattle.tabled_pool.specs.Boxes.Glyphs.{around_of}
use Rattle.tabled_pool.specs.Boxes.Runs.{held_shapes, line_bytes, text_with}
use Rattle.tabled_pool.proofs.BoxesLemmas.Lines.{no-part}
use Rattle.tabled_pool.proofs.BoxesLemmas.Runs.{held-bytes}
use Rattle.tabled_pool.proofs.boxes.line.push_parts.Goals as goal

pub returns : goal.returns
returns c =
    let look = look_of c.args.cfg.now in
    let around = around_of c.args.around.now in
    let parts = c.args.parts.now in
    let out = string_bytes c.loop-part.out in
    let new = string_bytes c.push_glyphs.new.out in
    let held = c.loop-part.held.items in
    let all = string_bytes c.args.out.now ++ line_bytes (shapes_from look around 0 (map box_part parts)) in
    let done : c.loop-part.part-index ≡ length parts = omega arith in
    on_ok_weaker {P = new ≡ out ++ line_items without_cells (map glyph_part c.deref.result.now)} {Q = new ≡ all} c.push_glyphs.result
    (λ printed.
    printed ∙ (ap (λ h. out ++ line_items without_cells (map glyph_part h)) c.deref.ensures.value
    ∙ (ap (λ l. out ++ l) (sym (held-bytes held))
    ∙ (ap (λ s. out ++ line_bytes s) (sym (append-nil (held_shapes held)))
    ∙ (sym (no-part (λ l. text_with out held (shapes_from look around c.loop-part.x l)) parts c.loop-part.part-index done) ∙ c.loop-part.invariant.1)))))
    c.push_glyphs.ensures
