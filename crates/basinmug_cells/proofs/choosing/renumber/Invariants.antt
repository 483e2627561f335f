use Rattle.std.proofs.Common.{◌≡◌, ◌≤◌, ◌++◌, drop, take}
use Rattle.basinmug_cells.specs.Held.{renumbered}
use Rattle.basinmug_cells.proofs.choosing.renumber.Given as goal

-- the places before it have their numbers
abbrev pub invariant-loop-place : goal.invariant-loop-place
invariant-loop-place l = record {
  few : l.next ≤ l.place-index;
  done : renumbered 0 l.initial.places ≡ take l.place-index l.places ++ renumbered l.next (drop l.place-index l.places);
}
