use Rattle.std.proofs.Common.{◌≡◌, ◌++◌, map, string_bytes}
use Rattle.std.specs.List.{range_with_len}
use Rattle.grid_config.specs.Looks.{look_of}
use Rattle.tabled_pool.specs.Boxes.Texts.{in_margins, joined_lines, printed_line}
use Rattle.tabled_pool.specs.Boxes.Canvas.{box_parts}
use Rattle.tabled_pool.proofs.boxes.margins.push_lines.Given as goal

abbrev pub invariant-loop-y : goal.invariant-loop-y
invariant-loop-y l =
    let look = look_of l.cfg in
    string_bytes l.out ≡ string_bytes l.fn.out ++ joined_lines (map (λ y. in_margins look (printed_line look (map box_parts l.lines) y)) (range_with_len 0 l.y))
