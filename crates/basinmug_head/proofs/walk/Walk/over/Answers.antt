-- The last record ends in these bytes.
use Rattle.std.proofs.Common.{refl}
use Rattle.basinmug_head.proofs.walk.Walk.over.Goals as goal

pub returns-then-walked-eq0-clause-step : goal.returns-then-walked-eq0-clause-step
returns-then-walked-eq0-clause-step c =
    λ records text walk.
    (c.walked_over-walked.result.count, c.walked_over-walked.ensures.within, refl, (c.walked_over-walked.ensures.walked walk.some).end c.if-walked-eq0.true records text walk)
