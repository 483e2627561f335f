use Rattle.std.proofs.Common.{length}
use denote.Text.{Utf8}
use denote.Shadow.{shadow}
use Rattle.grid_records_fronts.proofs.HasFront.{HasFront}
use Rattle.grid_records_fronts.proofs.front.measured_front.Given as goal

abbrev pub invariant-loop-own : goal.invariant-loop-own
invariant-loop-own l = HasFront l.fn.text l.rest l.columns × shadow (Utf8 l.rest)

abbrev pub decreases-loop-own : goal.decreases-loop-own
decreases-loop-own l = length l.rest
