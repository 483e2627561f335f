-- The parts so far and those that are left are all parts.
use Rattle.std.proofs.Common.{drop, map}
use Rattle.std.specs.Cow.{cow_str_bytes}
use Rattle.ansi_str.proofs.SplitSteps.{Walked}
use Rattle.ansi_str.proofs.places.split_places.Given as goal

abbrev pub invariant-loop-at : goal.invariant-loop-at
invariant-loop-at l = Walked l.text l.places (map cow_str_bytes l.parts.items) l.place.rest.now l.place.style l.from (drop l.at-index l.places)
