-- What is looked for is after the sequences that are left.
use Rattle.std.proofs.Common.{◌≡◌, length}
use Rattle.ansi_scan.specs.Pieces.{pieces}
use Rattle.ansi_str_search.specs.Text.StyledText.{style_after_all}
use Rattle.ansi_str_search.specs.Parts.{through_place}
use Rattle.ansi_str_search.specs.Walking.{from_text}
use Rattle.ansi_str_search.proofs.places.Place.past_sequences.Given as goal

abbrev pub invariant-loop-place : goal.invariant-loop-place
invariant-loop-place l =
    (from_text (pieces l.place.rest.now) ≡ from_text (pieces l.self.rest.now))
    × (style_after_all l.place.style (through_place 0 (pieces l.place.rest.now)) ≡ style_after_all l.self.style (through_place 0 (pieces l.self.rest.now)))

abbrev pub decreases-loop-place : goal.decreases-loop-place
decreases-loop-place l = length l.place.rest.now
