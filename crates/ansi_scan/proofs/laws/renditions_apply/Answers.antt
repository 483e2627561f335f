-- The lemmas of `Renditions`.
use Rattle.ansi_scan.proofs.Renditions.{IsSgr-read, IsSgr-if_read, applied-not_sgr}
use Rattle.ansi_scan.proofs.laws.renditions_apply.Goals as goal

pub returns-clause-same : goal.returns-clause-same
returns-clause-same c = λ bytes. (IsSgr-read bytes, IsSgr-if_read bytes)

pub returns-clause-other : goal.returns-clause-other
returns-clause-other c = applied-not_sgr
