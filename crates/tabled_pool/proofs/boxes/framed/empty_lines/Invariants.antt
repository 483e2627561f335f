use Rattle.std.proofs.Common.{◌≡◌, [], map, replicate}
use Rattle.tabled_pool.specs.Boxes.Canvas.{box_parts}
use Rattle.tabled_pool.proofs.boxes.framed.empty_lines.Given as goal

abbrev pub invariant-loop : goal.invariant-loop
invariant-loop l = map box_parts l.lines.items ≡ replicate l.counter []
