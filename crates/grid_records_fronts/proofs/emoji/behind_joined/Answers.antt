use Rattle.std.proofs.Common.{arith}
use Rattle.grid_records_fronts.proofs.Beginnings.{begins-shorter, begins-utf8, joined-more, joined-one}
use Rattle.grid_records_fronts.proofs.emoji.behind_joined.Goals as goal

pub loop-next-init : goal.loop-next-init
loop-next-init c =
    let known = c.in_ok-rest.ensures in
    (joined-one _ _ known, begins-utf8 _ _ _ c.utf8.text known.begins)

pub loop-next-smaller : goal.loop-next-smaller
loop-next-smaller c = begins-shorter _ _ _ (omega arith) c.in-Some.ensures.begins

pub loop-next-preserved : goal.loop-next-preserved
loop-next-preserved c =
    let more = c.in-Some.ensures in
    (joined-more _ _ _ c.loop-next.invariant.0 more, begins-utf8 _ _ _ c.loop-next.invariant.1 more.begins)
