use Rattle.std.proofs.Common.{◌≡◌, [], length, map, replicate, ap, arith, ◌∙◌}
use Rattle.std.specs.List.{range_with_len}
use Rattle.grid_config.specs.Looks.{look_of}
use Rattle.tabled_pool.specs.Boxes.Boxes.{box_of}
use Rattle.tabled_pool.specs.Boxes.Canvas.{box_parts}
use Rattle.tabled_pool.specs.Boxes.Framed.{framed_height, framed_line}
use Rattle.tabled_pool.specs.Boxes.Values.{nesting_of}
use Rattle.tabled_pool.proofs.BoxesLemmas.Frames.{vector-shown}
use Rattle.tabled_pool.proofs.boxes.framed.draw_framed.Goals as goal

pub returns-clause-lines : goal.returns-clause-lines
returns-clause-lines c =
    let look = look_of c.args.cfg.now in
    let box = box_of look (nesting_of c.args.value.now) in
    let new = c.draw_frame.new.lines in
    let own_is : c.in_ok-own.own.height ≡ box.height = ap (λ size. size.height) c.in_ok-own.ensures.own in
    let high : c.in_ok-frame.frame.height ≡ framed_height look box = omega (arith, own_is, c.in_ok-frame.ensures.height) in
    let long : c.in_ok-lines.lines.len ≡ length new = omega arith in
    let empty : map box_parts c.deref_mut.result.now ≡ replicate c.in_ok-frame.frame.height [] = ap (map box_parts) c.deref_mut.ensures.value ∙ c.in_ok-lines.ensures in
    vector-shown c.in_ok-lines.lines.items c.deref_mut.result.now new c.in_ok-lines.lines.len c.in_ok-frame.frame.height (framed_line look c.args.takers box) long empty c.in_ok-draw_frame.ensures
    ∙ ap (λ n. map (framed_line look c.args.takers box) (range_with_len 0 n)) high
