-- What is left to pass leads to the same place.
use denote.Shadow.{shadow}
use denote.Text.{Utf8}
use Rattle.std.proofs.Common.{length}
use Rattle.ansi_str_search.proofs.Searches.{IsSamePlace}
use Rattle.ansi_str_search.proofs.search.behind_place.Given as goal

abbrev pub invariant-loop-left : goal.invariant-loop-left
invariant-loop-left l = shadow (Utf8 l.rest) × IsSamePlace l.rest l.left l.text l.n

abbrev pub decreases-loop-left : goal.decreases-loop-left
decreases-loop-left l = length l.rest
