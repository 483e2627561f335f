use Rattle.std.proofs.Common.{◌≡◌, ◌++◌, List, map, string_bytes}
use Rattle.std.specs.List.{range_with_len}
use Rattle.grid_config.specs.Looks.{look_of}
use Rattle.tabled_pool.specs.Boxes.Crossings.{Shape, horizontal_glyph}
use Rattle.tabled_pool.specs.Boxes.Glyphs.{around_of}
use Rattle.tabled_pool.specs.Boxes.Runs.{text_with}
use Rattle.tabled_pool.specs.Boxes.Canvas.{kind_of}
use Rattle.tabled_pool.proofs.boxes.line.push_horizontal.Given as goal

abbrev pub invariant-loop-i : goal.invariant-loop-i
invariant-loop-i l =
    (behind : List Shape) → text_with (string_bytes l.out) l.held.items behind
    ≡ text_with (string_bytes l.fn.out) l.fn.held.items (map (horizontal_glyph (look_of l.cfg) (around_of l.around) (kind_of l.edge)) (range_with_len l.x l.i) ++ behind)
