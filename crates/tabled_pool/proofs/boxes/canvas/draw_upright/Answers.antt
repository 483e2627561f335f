use Rattle.std.proofs.Common.{[], ◌∷◌}
use Rattle.tabled_pool.specs.Boxes.Boxes.{Upright}
use Rattle.tabled_pool.specs.Boxes.Canvas.{kind_of}
use Rattle.tabled_pool.proofs.BoxesLemmas.Adding.{same-more, same-start}
use Rattle.tabled_pool.proofs.boxes.canvas.draw_upright.Goals as goal

pub loop-y-init : goal.loop-y-init
loop-y-init c = same-start c.args.lines.now c.args.top (λ _. Upright (kind_of c.args.edge) ∷ [])

pub loop-y-preserved : goal.loop-y-preserved
loop-y-preserved c =
    same-more c.args.lines.now c.loop-y.lines c.push_part.new.lines c.args.top c.loop-y.y (λ _. Upright (kind_of c.args.edge) ∷ []) c.loop-y.invariant c.in_ok-push_part.ensures
