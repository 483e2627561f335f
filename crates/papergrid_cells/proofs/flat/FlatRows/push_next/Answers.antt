use Rattle.std.proofs.Common.{◌≡◌, ◌++◌, ◌-◌, string_bytes, ap, ◌∙◌, arith}
use Rattle.std.specs.Option.{option_map}
use Rattle.grid_config.specs.Colors.{color_of}
use Rattle.grid_config.specs.Looks.{look_of}
use Rattle.papergrid_picture.specs.Blocks.{free_left}
use Rattle.papergrid_cells.specs.Painting.{colored, fill_bytes}
use Rattle.papergrid_cells.proofs.LaidRows.{goes-on, stays}
use Rattle.papergrid_cells.proofs.flat.FlatRows.push_next.Goals as goal

pub returns-then-leaves_empty : goal.returns-then-leaves_empty
returns-then-leaves_empty c = λ columns width made slot has.
    let rows = c.args.self.now in
    let bare = c.leaves_empty.ensures.slot c.if-leaves_empty.true in
    let empty = c.leaves_empty.ensures.line c.if-leaves_empty.true in
    stays rows ((look_of c.args.cfg.now).alignment_horizontal c.args.pos) width c.args.slot.now slot c.args.measure c.args.counted (option_map color_of c.args.color) c.args.text.now
    c.args.left.now (string_bytes c.args.out.now) has bare.0 bare.1 empty.0 empty.1

pub left_behind-requires-clause-free : goal.left_behind-requires-clause-free
left_behind-requires-clause-free c = omega (arith, c.saturating_sub-free.ensures, c.saturating_sub-2.ensures)

pub returns : goal.returns
returns c = λ columns width made slot has.
    let rows = c.args.self.now in
    let look = look_of c.args.cfg.now in
    let alignment = look.alignment_horizontal c.args.pos in
    let wide = c.args.slot.now.width in
    let out = string_bytes c.args.out.now in
    let before = c.free_before_line-before.result in
    let before_is : before ≡ free_left alignment (wide - c.args.counted) =
    c.free_before_line-before.ensures columns made ∙ ap (free_left alignment) c.saturating_sub.ensures in
    let free_is : c.saturating_sub-free.result ≡ wide - before - c.args.measure =
    c.saturating_sub-free.ensures ∙ ap (λ n. n - c.args.measure) c.saturating_sub-2.ensures in
    goes-on rows alignment width c.args.slot.now slot c.args.measure c.args.counted (option_map color_of c.args.color) c.args.text.now
    out has.middle has.spaces.after before c.saturating_sub-free.result before_is free_is
    (c.in_ok-push_text.ensures
    ∙ ap (λ l. l ++ colored (option_map color_of c.args.color) c.args.text.now)
    (c.in_ok-push_fill.ensures
    ∙ ap (λ l. l ++ fill_bytes 0x20 before)
    (c.in_ok-push_str.ensures.bytes ∙ ap (λ l. out ++ l) (c.left_before.ensures has))))
    (c.left_behind.ensures has)
