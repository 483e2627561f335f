use Rattle.std.proofs.Common.{refl, set}
use Rattle.tabled_pool.proofs.BoxesLemmas.Adding.{adds-part}
use Rattle.tabled_pool.proofs.boxes.canvas.push_part.Goals as goal

pub returns : goal.returns
returns c =
    adds-part c.args.lines.now (set c.args.lines.now c.args.line c.push.new.self) c.args.line c.index-lines-line.result c.push.new.self c.args.part
    c.requires c.in_ok-push.ensures.items refl
