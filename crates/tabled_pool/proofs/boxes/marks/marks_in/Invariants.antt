use Rattle.std.proofs.Common.{◌≡◌, ◌++◌, drop, map}
use Rattle.tabled_pool.specs.Boxes.Crossings.{marks}
use Rattle.tabled_pool.specs.Boxes.Canvas.{box_part}
use Rattle.tabled_pool.proofs.boxes.marks.marks_in.Given as goal

abbrev pub invariant-loop-part : goal.invariant-loop-part
invariant-loop-part l = l.found.items ++ marks (map box_part (drop l.part-index l.parts)) ≡ marks (map box_part l.parts)
