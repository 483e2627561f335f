use Rattle.std.proofs.Common.{◌≡◌, ◌+◌, ◌++◌, drop, length, map, string_bytes}
use Rattle.grid_config.specs.Looks.{look_of}
use Rattle.tabled_pool.specs.Boxes.Crossings.{marks, shapes_from}
use Rattle.tabled_pool.specs.Boxes.Glyphs.{around_of}
use Rattle.tabled_pool.specs.Boxes.Runs.{line_bytes, text_with}
use Rattle.tabled_pool.specs.Boxes.Canvas.{box_part}
use Rattle.tabled_pool.proofs.boxes.line.push_parts.Given as goal

abbrev pub invariant-loop-part : goal.invariant-loop-part
invariant-loop-part l =
    let look = look_of l.cfg in
    let around = around_of l.around in
    let left = map box_part (drop l.part-index l.parts) in
    (l.x + length (marks left) ≡ length l.around.here.items)
    × (text_with (string_bytes l.out) l.held.items (shapes_from look around l.x left) ≡ string_bytes l.fn.out ++ line_bytes (shapes_from look around 0 (map box_part l.parts)))
