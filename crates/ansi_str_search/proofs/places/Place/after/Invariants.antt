-- What is left to pass leads to the same place.
use Rattle.std.proofs.Common.{length}
use Rattle.ansi_str_search.proofs.Walks.{SamePlace}
use Rattle.ansi_str_search.proofs.places.Place.after.Given as goal

abbrev pub invariant-loop-left : goal.invariant-loop-left
invariant-loop-left l = SamePlace l.place.rest.now l.place.style l.left l.self.rest.now l.self.style l.n

abbrev pub decreases-loop-left : goal.decreases-loop-left
decreases-loop-left l = length l.place.rest.now
