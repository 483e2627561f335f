use Rattle.std.proofs.Common.{ℕ, ◌+◌, List, [], ◌∷◌, cond, subst}
use Rattle.std.specs.Prelude.{nat_eq}
use Rattle.grid_config.specs.Looks.{look_of}
use Rattle.tabled_pool.specs.Boxes.Boxes.{BoxPart, Shown, cell_bytes}
use Rattle.tabled_pool.specs.Boxes.Canvas.{Adds}
use Rattle.tabled_pool.specs.Boxes.Open.{measures_of, texts_of}
use Rattle.tabled_pool.proofs.BoxesLemmas.Adding.{same-more, same-start}
use Rattle.tabled_pool.proofs.boxes.text.draw_lines.Goals as goal

pub loop-y-init : goal.loop-y-init
loop-y-init c =
    let text = c.args.shown.now in
    let line : ℕ → List BoxPart = λ y. Shown text.width (cell_bytes (look_of c.args.pen.now.cfg.now) (measures_of text) (texts_of text) text.width c.args.height y) ∷ [] in
    same-start c.args.lines.now c.args.top line

pub loop-y-preserved : goal.loop-y-preserved
loop-y-preserved c =
    let text = c.args.shown.now in
    let line : ℕ → List BoxPart = λ y. Shown text.width (cell_bytes (look_of c.args.pen.now.cfg.now) (measures_of text) (texts_of text) text.width c.args.height y) ∷ [] in
    same-more c.args.lines.now c.loop-y.lines c.push_part.new.lines c.args.top c.loop-y.y line c.loop-y.invariant
    (subst (λ bytes. Adds c.loop-y.lines c.push_part.new.lines (λ k. cond (nat_eq k (c.args.top + c.loop-y.y)) (Shown text.width bytes ∷ []) [])) c.in_ok-line.ensures c.in_ok-push_part.ensures)
