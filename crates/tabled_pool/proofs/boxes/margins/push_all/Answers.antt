use Rattle.std.proofs.Common.{◌≡◌, ◌<◌, ◌++◌, length, map, replicate, arith}
use Rattle.std.specs.Prelude.{string_bytes}
use Rattle.std.proofs.lemmas.List.{length-map}
use Rattle.std.proofs.lemmas.Result.{on_ok_weaker}
use Rattle.grid_config.specs.Looks.{look_of}
use Rattle.tabled_pool.specs.Boxes.Canvas.{box_parts}
use Rattle.tabled_pool.specs.Boxes.Texts.{behind_feeds, joined_lines, margin_line, printed_lines, with_margins}
use Rattle.tabled_pool.proofs.BoxesLemmas.RoundMargins.{count-printed, margins-around}
use Rattle.tabled_pool.proofs.boxes.margins.push_all.Goals as goal

pub returns : goal.returns
returns c =
    let look = look_of c.args.cfg.now in
    let lines = map box_parts c.args.lines.now in
    let width = c.args.width in
    let out = string_bytes c.args.out.now in
    let mid = string_bytes c.push_lines.new.out in
    let new = string_bytes c.push_below.new.out in
    let some : 0 < length (printed_lines look lines) = omega (arith, count-printed look lines, length-map c.args.lines.now box_parts, c.requires) in
    on_ok_weaker {P = new ≡ mid ++ behind_feeds (replicate look.margin.bottom.size (margin_line look width look.margin.bottom look.margin_color.bottom))} {Q = new ≡ out ++ joined_lines (with_margins look width (printed_lines look lines))} c.push_below.result
    (margins-around look width (printed_lines look lines) out (string_bytes c.push_above.new.out) mid new some c.in_ok-push_above.ensures c.in_ok-push_lines.ensures)
    c.push_below.ensures
