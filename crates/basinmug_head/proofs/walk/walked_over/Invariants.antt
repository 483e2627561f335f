-- The bytes so far are walked over, and records are still to end.
use Rattle.std.proofs.Common.{◌<◌, ℕ, List, ◌++◌, take}
use Rattle.basinmug_input.specs.Reading.{settings}
use Rattle.basinmug_head.specs.Walking.{IsWalkOf}
use Rattle.basinmug_head.proofs.walk.walked_over.Given as goal

abbrev pub invariant-loop-at : goal.invariant-loop-at
invariant-loop-at l = record {
  walk : (count : ℕ) (text : List ℕ) → IsWalkOf (settings l.delimiter) count text l.fn.state l.left → IsWalkOf (settings l.delimiter) count (text ++ take l.at l.bytes) l.stands l.still;
  some : 0 < l.left → 0 < l.still;
}
