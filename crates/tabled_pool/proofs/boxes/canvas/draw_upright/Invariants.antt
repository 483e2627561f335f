use Rattle.std.proofs.Common.{[], ◌∷◌}
use Rattle.tabled_pool.specs.Boxes.Boxes.{Upright, first_lines, from_line}
use Rattle.tabled_pool.specs.Boxes.Canvas.{Adds, kind_of}
use Rattle.tabled_pool.proofs.boxes.canvas.draw_upright.Given as goal

abbrev pub invariant-loop-y : goal.invariant-loop-y
invariant-loop-y l = Adds l.initial.lines l.lines (from_line l.top (first_lines l.y (λ _. Upright (kind_of l.edge) ∷ [])))
