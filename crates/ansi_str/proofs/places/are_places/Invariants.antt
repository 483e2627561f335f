-- The places so far rise, and what is left comes after the last one.
use denote.Shadow.{shadow}
use denote.Text.{Utf8}
use Rattle.std.proofs.Common.{drop}
use Rattle.ansi_str.proofs.RisingPlaces.{Tested}
use Rattle.ansi_str.proofs.places.are_places.Given as goal

abbrev pub invariant-loop-at : goal.invariant-loop-at
invariant-loop-at l = shadow (Utf8 l.rest) × Tested l.text l.places l.rest l.from (drop l.at-index l.others)
