use Rattle.std.proofs.Common.{length}
use denote.Text.{Utf8}
use denote.Shadow.{shadow}
use Rattle.grid_records_fronts.specs.Fronts.{BeginsWithJoined}
use Rattle.grid_records_fronts.proofs.emoji.behind_joined.Given as goal

abbrev pub invariant-loop-next : goal.invariant-loop-next
invariant-loop-next l = BeginsWithJoined l.fn.text l.rest × shadow (Utf8 l.rest)

abbrev pub decreases-loop-next : goal.decreases-loop-next
decreases-loop-next l = length l.rest
