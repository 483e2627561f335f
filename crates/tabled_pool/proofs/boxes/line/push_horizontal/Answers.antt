use Rattle.std.proofs.Common.{◌∷◌, ap, ◌∙◌}
use Rattle.std.specs.Prelude.{string_bytes}
use Rattle.grid_config.specs.Looks.{look_of}
use Rattle.tabled_pool.specs.Boxes.Canvas.{kind_of}
use Rattle.tabled_pool.specs.Boxes.Crossings.{horizontal_glyph}
use Rattle.tabled_pool.specs.Boxes.Glyphs.{around_of}
use Rattle.tabled_pool.specs.Boxes.Runs.{text_with}
use Rattle.tabled_pool.proofs.BoxesLemmas.Lines.{horizontal-more}
use Rattle.tabled_pool.proofs.boxes.line.push_horizontal.Goals as goal

pub loop-i-preserved : goal.loop-i-preserved
loop-i-preserved c =
    horizontal-more (horizontal_glyph (look_of c.args.cfg.now) (around_of c.args.around.now) (kind_of c.args.edge)) c.args.x c.loop-i.i
    (string_bytes c.args.out.now) (string_bytes c.loop-i.out) (string_bytes c.push_glyph.new.out) c.args.held.now.items c.loop-i.held.items c.push_glyph.new.held.items
    c.loop-i.invariant
    (λ behind. c.in_ok-push_glyph.ensures behind ∙ ap (λ s. text_with (string_bytes c.loop-i.out) c.loop-i.held.items (s ∷ behind)) c.horizontal_glyph.ensures)
