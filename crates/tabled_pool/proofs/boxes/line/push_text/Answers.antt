use Rattle.std.proofs.Common.{◌≡◌, ◌++◌, ◌∷◌, None, false, map, refl, ap, subst, sym, ◌∙◌}
use Rattle.std.specs.Prelude.{string_bytes}
use Rattle.papergrid_cells.specs.Painting.{without_cells, glyph_part}
use Rattle.papergrid_picture.specs.Reading.{line_items}
use Rattle.tabled_pool.specs.Boxes.Crossings.{Shape}
use Rattle.tabled_pool.specs.Boxes.Runs.{text_with}
use Rattle.tabled_pool.proofs.BoxesLemmas.Runs.{with-alone}
use Rattle.tabled_pool.proofs.boxes.line.push_text.Goals as goal

pub returns : goal.returns
returns c =
    let out = string_bytes c.args.out.now in
    let mid = string_bytes c.push_glyphs.new.out in
    let new = string_bytes c.push_str.new.self in
    let shape : Shape = record { bytes = c.args.text.now; color = None; joins = false } in
    let first : mid ≡ out ++ line_items without_cells (map glyph_part c.args.held.now.items) =
    c.in_ok-push_glyphs.ensures ∙ ap (λ h. out ++ line_items without_cells (map glyph_part h)) c.deref.ensures.value in
    λ behind.
    subst (λ h. text_with new h behind ≡ text_with out c.args.held.now.items (shape ∷ behind)) (sym c.clear.ensures.items)
    (with-alone shape refl out mid new c.args.held.now.items first c.in_ok-push_str.ensures.bytes behind)
