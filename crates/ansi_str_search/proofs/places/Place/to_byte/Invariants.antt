-- The place that is sought stays the same, and no run without the byte is left.
use Rattle.std.proofs.Common.{◌≡◌, length}
use Rattle.std.specs.List.{prefix_len}
use Rattle.ansi_str_search.specs.Walking.{is_other}
use Rattle.ansi_str_search.proofs.Landing.{SameLanding}
use Rattle.ansi_str_search.proofs.places.Place.to_byte.Given as goal

abbrev pub invariant-loop-place : goal.invariant-loop-place
invariant-loop-place l =
    SameLanding l.byte l.place.rest.now l.place.style l.self.rest.now l.self.style
    × (prefix_len (is_other l.byte) l.place.rest.now ≡ 0)

abbrev pub decreases-loop-place : goal.decreases-loop-place
decreases-loop-place l = length l.place.rest.now
