use Rattle.std.proofs.Common.{[], ◌∷◌}
use Rattle.grid_config.specs.Looks.{look_of}
use Rattle.tabled_pool.specs.Boxes.Boxes.{Shown, cell_bytes, first_lines, from_line}
use Rattle.tabled_pool.specs.Boxes.Canvas.{Adds}
use Rattle.tabled_pool.specs.Boxes.Open.{measures_of, texts_of}
use Rattle.tabled_pool.proofs.boxes.text.draw_lines.Given as goal

abbrev pub invariant-loop-y : goal.invariant-loop-y
invariant-loop-y l =
    Adds l.initial.lines l.lines
    (from_line l.top (first_lines l.y (λ y. Shown l.shown.width (cell_bytes (look_of l.pen.cfg.now) (measures_of l.shown) (texts_of l.shown) l.shown.width l.height y) ∷ [])))
