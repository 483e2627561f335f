use Rattle.std.proofs.Common.{◌≡◌, ◌∙◌, length, map, ap, arith, rules}
use Rattle.std.specs.Prelude.{nat_eq}
use Rattle.grid_config.specs.Looks.{look_of}
use Rattle.tabled_pool.specs.Boxes.Boxes.{box_of}
use Rattle.tabled_pool.specs.Boxes.Canvas.{box_parts}
use Rattle.tabled_pool.specs.Boxes.Texts.{IsPoolTooLarge, joined_lines, printed_lines}
use Rattle.tabled_pool.specs.Boxes.Values.{nesting_of}
use Rattle.tabled_pool.proofs.BoxesLemmas.RoundMargins.{is-within, passes}
use Rattle.tabled_pool.proofs.boxes.margins.pool_text.Goals as goal

pub returns-in_err-check_margins-clause-range : goal.returns-in_err-check_margins-clause-range
returns-in_err-check_margins-clause-range c =
    let look = look_of c.args.cfg.now in
    let box = box_of look (nesting_of c.args.value.now) in
    let long : c.len.result ≡ length c.in_ok-framed.framed.lines.items = omega arith in
    let up : IsPoolTooLarge look c.args.takers box =
    passes look c.args.takers box c.in_ok-framed.framed.lines.items c.in_ok-framed.ensures.lines c.in_ok-shows_nothing.field-0
    (c.in_ok-shows_nothing.ensures ∙ ap (λ l. nat_eq (length (joined_lines (printed_lines look (map box_parts l)))) 0) c.deref.ensures.value)
    c.if-branch.false c.in_ok-framed.framed.width c.len.result c.in_ok-framed.ensures.width long c.in_err-check_margins.ensures.range in
    search (rules, up)

pub returns-clause-fits : goal.returns-clause-fits
returns-clause-fits c =
    let look = look_of c.args.cfg.now in
    let box = box_of look (nesting_of c.args.value.now) in
    let long : c.len.result ≡ length c.in_ok-framed.framed.lines.items = omega arith in
    is-within look c.args.takers box c.in_ok-framed.framed.lines.items c.in_ok-framed.ensures.lines c.in_ok-shows_nothing.field-0
    (c.in_ok-shows_nothing.ensures ∙ ap (λ l. nat_eq (length (joined_lines (printed_lines look (map box_parts l)))) 0) c.deref.ensures.value)
    c.if-branch.false c.in_ok-framed.framed.width c.len.result c.in_ok-framed.ensures.width long c.in_ok-check_margins.ensures.fits
