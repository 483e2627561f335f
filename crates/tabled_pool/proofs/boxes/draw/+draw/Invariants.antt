use Rattle.std.proofs.Common.{◌≡◌, ℕ, ◌+◌, ◌++◌, List, drop}
use Rattle.grid_config.specs.Looks.{look_of}
use Rattle.tabled_pool.specs.Boxes.Boxes.{from_line}
use Rattle.tabled_pool.specs.declared.boxes.size.Size.{Size}
use Rattle.tabled_pool.proofs.BoxesLemmas.Adding.{Leads}
use Rattle.tabled_pool.proofs.BoxesLemmas.Draws.{column_left, need_from, row_left}
use Rattle.tabled_pool.proofs.BoxesLemmas.Sizes.{all_sizes}
use Rattle.tabled_pool.proofs.boxes.draw.+draw.Given as goal

abbrev pub invariant-draw_row-loop-i : goal.invariant-draw_row-loop-i
invariant-draw_row-loop-i l =
    let look = look_of l.pen.cfg.now in
    let values = l.members.items in
    let left = row_left look l.pen.takers l.n l.beyond l.height in
    ((more : List Size) × (l.initial.sizes ≡ all_sizes look values ++ more) × (l.sizes ≡ all_sizes look (drop l.i values) ++ more))
    × Leads l.initial.lines (from_line l.top (left 0 values)) l.lines (from_line l.top (left l.i (drop l.i values)))

abbrev pub invariant-draw_column-loop-i : goal.invariant-draw_column-loop-i
invariant-draw_column-loop-i l =
    let look = look_of l.pen.cfg.now in
    let values = l.members.items in
    let left = column_left look l.pen.takers l.n l.beyond l.width in
    ((more : List Size) × (l.initial.sizes ≡ all_sizes look values ++ more) × (l.sizes ≡ all_sizes look (drop l.i values) ++ more))
    × ((t : ℕ) × (l.at ≡ l.top + t) × (t + need_from look l.pen.takers l.n l.beyond l.i (drop l.i values) ≡ l.height)
    × Leads l.initial.lines (from_line l.top (left 0 0 values)) l.lines (from_line l.top (left l.i t (drop l.i values))))
