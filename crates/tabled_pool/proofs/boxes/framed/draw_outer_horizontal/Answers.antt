use Rattle.std.proofs.Common.{subst, sym}
use Rattle.papergrid_picture.specs.Frame.{thickness}
use Rattle.tabled_pool.specs.Boxes.Boxes.{from_line}
use Rattle.tabled_pool.specs.Boxes.Canvas.{Adds, kind_of}
use Rattle.tabled_pool.specs.Boxes.Framed.{outer_horizontal}
use Rattle.tabled_pool.proofs.BoxesLemmas.Frames.{horizontal-absent}
use Rattle.tabled_pool.proofs.boxes.framed.draw_outer_horizontal.Goals as goal

pub returns-else-is_there : goal.returns-else-is_there
returns-else-is_there c =
    subst (λ b. Adds c.args.lines.now c.args.lines.now (from_line c.args.line (outer_horizontal c.args.width (thickness b) (kind_of c.args.edge)))) (sym c.if-is_there.false)
    (horizontal-absent c.args.lines.now c.args.lines.now (kind_of c.args.edge) c.args.line c.args.width)
