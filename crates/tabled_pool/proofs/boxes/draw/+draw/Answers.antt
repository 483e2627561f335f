use Rattle.std.proofs.Common.{◌≡◌, ◌<◌, ◌≤◌, ◌+◌, ◌-◌, get_or, length, ap, subst, sym, ◌∙◌, arith, rules}
use Rattle.std.specs.Prelude.{OnOk, string_bytes}
use Rattle.grid_config.specs.Looks.{look_of}
use Rattle.tabled_pool.specs.declared.boxes.value.TableValue.{the_lemmas}
use Rattle.tabled_pool.specs.Boxes.Boxes.{box_of, boxes_of, column_height, from_line, gap, has_horizontal, horizontal_before, row_width, text_box}
use Rattle.tabled_pool.specs.Boxes.Canvas.{Adds}
use Rattle.tabled_pool.specs.Boxes.Shares.{share}
use Rattle.tabled_pool.specs.Boxes.Values.{Beside, Stacked, Text, nesting_of, nestings_of}
use Rattle.tabled_pool.proofs.BoxesLemmas.Adding.{leads-start}
use Rattle.tabled_pool.proofs.BoxesLemmas.Draws.{begins-first, column_end, column_step, height-within, highest-within, member-begins, member-rest, need-all, need_from, need_more, nesting-cell, row_end, row_step, share-within, widest-within, width-within}
use Rattle.tabled_pool.proofs.BoxesLemmas.Sizes.{box, highest_box, widest_box, not-empty, some-beside, some-stacked}
use Rattle.tabled_pool.proofs.boxes.draw.+draw.Goals as goal

pub draw-returns-in-Cell-clause-lines : goal.draw-returns-in-Cell-clause-lines
draw-returns-in-Cell-clause-lines t c =
    let look = look_of c.args.pen.now.cfg.now in
    let nesting : nesting_of c.args.value.now ≡ Text (string_bytes c.in-Cell.text) = ap nesting_of c.in-Cell.is ∙ nesting-cell c.in-Cell.text in
    let same : text_box look c.deref.result.now ≡ box_of look (nesting_of c.args.value.now) = ap (text_box look) c.deref.ensures ∙ ap (box_of look) (sym nesting) in
    subst (λ b. OnOk c.draw_cell.result (Adds c.args.lines.now c.draw_cell.new.lines (from_line c.args.top (b.line c.args.pen.now.takers c.args.width c.args.height)))) same c.draw_cell.ensures.lines

pub draw_row-overflow_add-given : goal.draw_row-overflow_add-given
draw_row-overflow_add-given t c =
    let look = look_of c.args.pen.now.cfg.now in
    let values = c.args.members.now.items in
    let list = c.deref-member-items.ensures.value in
    let m = c.member-item.result in
    let is : m ≡ get_or values c.loop-i.i m = c.member-item.is ∙ ap (λ l. get_or l c.loop-i.i m) list in
    let long : length c.deref-member-items.result.now ≡ length values = ap length list in
    let inside : c.loop-i.i < length values = omega (arith, long) in
    let begins = member-begins look values c.loop-i.i m inside is c.loop-i.sizes.now c.loop-i.invariant.0.0 c.loop-i.invariant.0.2 in
    let own_is : c.first-own.result.width ≡ (box look m).width = ap (λ s. s.width) (begins-first look (nesting_of m) c.loop-i.sizes.now c.first-own.result begins c.first-own.ensures) in
    let some : 0 < length values = omega (arith, inside) in
    let row_is : (box_of look (Beside (nestings_of values))).width ≡ row_width look (boxes_of look (nestings_of values)) = ap (λ b. b.width) (some-beside look values some) in
    let n_is : c.len-n.result ≡ length values = c.len-n.ensures ∙ (sym c.deref-member-items.ensures.len ∙ long) in
    let within = width-within look values c.loop-i.i m inside is in
    let taken = share-within c.args.pen.now.takers.width (c.args.width - c.args.own) c.len-n.result c.loop-i.i (omega (arith, n_is, inside)) in
    let share_is : c.share.result ≡ share c.args.pen.now.takers.width (c.args.width - c.args.own) c.len-n.result c.loop-i.i = c.share.ensures ∙ ap (λ k. share k (c.args.width - c.args.own) c.len-n.result c.loop-i.i) c.width.ensures in
    let sum : c.first-own.result.width + c.share.result ≤ c.args.width = omega (arith, own_is, share_is, taken, within, row_is, c.requires.own, c.requires.room.0) in
    omega (arith, sum, c.ranges.width.fits)

pub draw_row-draw-requires : goal.draw_row-draw-requires
draw_row-draw-requires t c =
    let look = look_of c.args.pen.now.cfg.now in
    let values = c.args.members.now.items in
    let list = c.deref-member-items.ensures.value in
    let m = c.member-item.result in
    let is : m ≡ get_or values c.loop-i.i m = c.member-item.is ∙ ap (λ l. get_or l c.loop-i.i m) list in
    let long : length c.deref-member-items.result.now ≡ length values = ap length list in
    let inside : c.loop-i.i < length values = omega (arith, long) in
    let begins = member-begins look values c.loop-i.i m inside is c.loop-i.sizes.now c.loop-i.invariant.0.0 c.loop-i.invariant.0.2 in
    let own_is : c.first-own.result.width ≡ (box look m).width = ap (λ s. s.width) (begins-first look (nesting_of m) c.loop-i.sizes.now c.first-own.result begins c.first-own.ensures) in
    let some : 0 < length values = omega (arith, inside) in
    let row_is : (box_of look (Beside (nestings_of values))).height ≡ highest_box look values = ap (λ b. b.height) (some-beside look values some) in
    let high = highest-within look values c.loop-i.i m inside is in
    let wide : (box look m).width ≤ c.first-own.result.width + c.share.result = omega (arith, own_is) in
    let tall : (box look m).height ≤ c.args.height = omega (arith, row_is, high, c.requires.room.1) in
    let lines : c.args.top + c.args.height ≤ length c.draw_upright_before.new.lines = omega (arith, c.requires.inside, c.loop-i.invariant.1.long, c.in_ok-draw_upright_before.ensures.0) in
    (first_of (search (rules, the_lemmas), grind (arith, the_lemmas, c.decreases)), search (rules, begins, wide, tall, lines))

pub draw_row-loop-i-preserved : goal.draw_row-loop-i-preserved
draw_row-loop-i-preserved t c =
    let look = look_of c.args.pen.now.cfg.now in
    let takers = c.args.pen.now.takers in
    let values = c.args.members.now.items in
    let list = c.deref-member-items.ensures.value in
    let m = c.member-item.result in
    let is : m ≡ get_or values c.loop-i.i m = c.member-item.is ∙ ap (λ l. get_or l c.loop-i.i m) list in
    let long : length c.deref-member-items.result.now ≡ length values = ap length list in
    let inside : c.loop-i.i < length values = omega (arith, long) in
    let more = c.loop-i.invariant.0.0 in
    let begins = member-begins look values c.loop-i.i m inside is c.loop-i.sizes.now more c.loop-i.invariant.0.2 in
    let own_is : c.first-own.result.width ≡ (box look m).width = ap (λ s. s.width) (begins-first look (nesting_of m) c.loop-i.sizes.now c.first-own.result begins c.first-own.ensures) in
    let share_is : c.share.result ≡ share takers.width (c.args.width - c.args.own) c.len-n.result c.loop-i.i = c.share.ensures ∙ ap (λ k. share k (c.args.width - c.args.own) c.len-n.result c.loop-i.i) c.width.ensures in
    let given_is : c.first-own.result.width + c.share.result ≡ (box look m).width + share takers.width (c.args.width - c.args.own) c.len-n.result c.loop-i.i = omega (arith, own_is, share_is) in
    let second = subst (λ w. Adds c.draw_upright_before.new.lines c.draw.new.lines (from_line c.args.top ((box look m).line takers w c.args.height))) given_is c.in_ok-sizes.ensures.lines in (
      (more, c.loop-i.invariant.0.1, member-rest look values c.loop-i.i m inside is c.loop-i.sizes.now more c.loop-i.invariant.0.2 c.in_ok-sizes.sizes.now c.in_ok-sizes.ensures.rest),
      row_step look takers c.len-n.result (c.args.width - c.args.own) c.args.height values c.loop-i.i m inside is c.args.top c.args.lines.now _ c.loop-i.lines c.draw_upright_before.new.lines c.draw.new.lines
          c.loop-i.invariant.1 c.in_ok-draw_upright_before.ensures second,
    )

pub draw_row-returns-clause-lines : goal.draw_row-returns-clause-lines
draw_row-returns-clause-lines t c =
    let look = look_of c.args.pen.now.cfg.now in
    let values = c.args.members.now.items in
    let long : length c.deref-member-items.result.now ≡ length values = ap length c.deref-member-items.ensures.value in
    let some : 0 < length values = not-empty c.is_empty.result _ (length values) c.is_empty.ensures c.if-is_empty.false (sym long ∙ c.deref-member-items.ensures.len) in
    let n_is : c.len-n.result ≡ length values = c.len-n.ensures ∙ (sym c.deref-member-items.ensures.len ∙ long) in
    row_end look c.args.pen.now.takers values c.args.top c.args.width c.args.height c.len-n.result (c.args.width - c.args.own) c.loop-i.i c.args.lines.now c.loop-i.lines some n_is (omega (arith, long))
    (ap (λ o. c.args.width - o) c.requires.own) c.loop-i.invariant.1

pub draw_column-loop-i-init : goal.draw_column-loop-i-init
draw_column-loop-i-init t c =
    let look = look_of c.args.pen.now.cfg.now in
    let takers = c.args.pen.now.takers in
    let values = c.args.members.now.items in
    let boxes = boxes_of look (nestings_of values) in
    let long : length c.deref-member-items.result.now ≡ length values = ap length c.deref-member-items.ensures.value in
    let some : 0 < length values = not-empty c.is_empty.result _ (length values) c.is_empty.ensures c.if-is_empty.false (sym long ∙ c.deref-member-items.ensures.len) in
    let n_is : c.len-n.result ≡ length values = c.len-n.ensures ∙ (sym c.deref-member-items.ensures.len ∙ long) in
    let own_is : c.args.own ≡ column_height look boxes = c.requires.own ∙ ap (λ b. b.height) (some-stacked look values some) in
    let room : column_height look boxes ≤ c.args.height = omega (arith, own_is, c.requires.own, c.requires.room.1) in
    let need : need_from look takers c.len-n.result (c.args.height - c.args.own) 0 values ≡ c.args.height =
    ap (λ n. need_from look takers n (c.args.height - c.args.own) 0 values) n_is
    ∙ (ap (λ o. need_from look takers (length values) (c.args.height - o) 0 values) own_is
    ∙ need-all look takers values c.args.height some room) in (
      (c.requires.sizes.0, c.requires.sizes.1, c.requires.sizes.1),
      (0, omega arith, omega (arith, need), leads-start c.args.lines.now _),
    )

pub draw_column-overflow_add-given : goal.draw_column-overflow_add-given
draw_column-overflow_add-given t c =
    let look = look_of c.args.pen.now.cfg.now in
    let values = c.args.members.now.items in
    let list = c.deref-member-items.ensures.value in
    let m = c.member-item.result in
    let is : m ≡ get_or values c.loop-i.i m = c.member-item.is ∙ ap (λ l. get_or l c.loop-i.i m) list in
    let long : length c.deref-member-items.result.now ≡ length values = ap length list in
    let inside : c.loop-i.i < length values = omega (arith, long) in
    let begins = member-begins look values c.loop-i.i m inside is c.loop-i.sizes.now c.loop-i.invariant.0.0 c.loop-i.invariant.0.2 in
    let own_is : c.first-own.result.height ≡ (box look m).height = ap (λ s. s.height) (begins-first look (nesting_of m) c.loop-i.sizes.now c.first-own.result begins c.first-own.ensures) in
    let some : 0 < length values = omega (arith, inside) in
    let column_is : (box_of look (Stacked (nestings_of values))).height ≡ column_height look (boxes_of look (nestings_of values)) = ap (λ b. b.height) (some-stacked look values some) in
    let n_is : c.len-n.result ≡ length values = c.len-n.ensures ∙ (sym c.deref-member-items.ensures.len ∙ long) in
    let within = height-within look values c.loop-i.i m inside is in
    let taken = share-within c.args.pen.now.takers.height (c.args.height - c.args.own) c.len-n.result c.loop-i.i (omega (arith, n_is, inside)) in
    let share_is : c.share.result ≡ share c.args.pen.now.takers.height (c.args.height - c.args.own) c.len-n.result c.loop-i.i = c.share.ensures ∙ ap (λ k. share k (c.args.height - c.args.own) c.len-n.result c.loop-i.i) c.height.ensures in
    let sum : c.first-own.result.height + c.share.result ≤ c.args.height = omega (arith, own_is, share_is, taken, within, column_is, c.requires.own, c.requires.room.1) in
    omega (arith, sum, c.ranges.height.fits)

pub draw_column-loop-i-preserved : goal.draw_column-loop-i-preserved
draw_column-loop-i-preserved t c =
    let look = look_of c.args.pen.now.cfg.now in
    let takers = c.args.pen.now.takers in
    let values = c.args.members.now.items in
    let n = c.len-n.result in
    let beyond = c.args.height - c.args.own in
    let i = c.loop-i.i in
    let list = c.deref-member-items.ensures.value in
    let m = c.member-item.result in
    let is : m ≡ get_or values i m = c.member-item.is ∙ ap (λ l. get_or l i m) list in
    let long : length c.deref-member-items.result.now ≡ length values = ap length list in
    let inside : i < length values = omega (arith, long) in
    let more = c.loop-i.invariant.0.0 in
    let from = c.loop-i.invariant.1.0 in
    let begins = member-begins look values i m inside is c.loop-i.sizes.now more c.loop-i.invariant.0.2 in
    let own_is : c.first-own.result.height ≡ (box look m).height = ap (λ s. s.height) (begins-first look (nesting_of m) c.loop-i.sizes.now c.first-own.result begins c.first-own.ensures) in
    let share_is : c.share.result ≡ share takers.height beyond n i = c.share.ensures ∙ ap (λ k. share k beyond n i) c.height.ensures in
    let given_is : c.first-own.result.height + c.share.result ≡ (box look m).height + share takers.height beyond n i = omega (arith, own_is, share_is) in
    let taken : c.in_ok-at.field-0 ≡ gap (has_horizontal look) i = c.in_ok-at.ensures.taken in
    let at_is : c.loop-i.at ≡ c.args.top + from = c.loop-i.invariant.1.1 in
    let below_is : c.loop-i.at + c.in_ok-at.field-0 ≡ c.args.top + (from + gap (has_horizontal look) i) = omega (arith, taken, at_is) in
    let one = subst (λ a. Adds c.loop-i.lines c.draw_horizontal_before.new.lines (from_line a (horizontal_before look i c.args.width))) at_is c.in_ok-at.ensures.lines in
    let two = subst (λ h. Adds c.draw_horizontal_before.new.lines c.draw.new.lines (from_line (c.loop-i.at + c.in_ok-at.field-0) ((box look m).line takers c.args.width h))) given_is c.in_ok-sizes.ensures.lines in
    let three = subst (λ a. Adds c.draw_horizontal_before.new.lines c.draw.new.lines (from_line a ((box look m).line takers c.args.width ((box look m).height + share takers.height beyond n i)))) below_is two in
    let need = need_more look takers n beyond values i m inside is in (
      (more, c.loop-i.invariant.0.1, member-rest look values i m inside is c.loop-i.sizes.now more c.loop-i.invariant.0.2 c.in_ok-sizes.sizes.now c.in_ok-sizes.ensures.rest),
      (
        from + gap (has_horizontal look) i + ((box look m).height + share takers.height beyond n i),
        omega (arith, below_is, given_is),
        omega (arith, need, c.loop-i.invariant.1.2),
        column_step look takers n beyond c.args.width values i m inside is from c.args.top c.args.lines.now _ c.loop-i.lines c.draw_horizontal_before.new.lines c.draw.new.lines c.loop-i.invariant.1.3 one three,
      ),
    )

pub draw_column-returns-clause-lines : goal.draw_column-returns-clause-lines
draw_column-returns-clause-lines t c =
    let look = look_of c.args.pen.now.cfg.now in
    let values = c.args.members.now.items in
    let long : length c.deref-member-items.result.now ≡ length values = ap length c.deref-member-items.ensures.value in
    let some : 0 < length values = not-empty c.is_empty.result _ (length values) c.is_empty.ensures c.if-is_empty.false (sym long ∙ c.deref-member-items.ensures.len) in
    let n_is : c.len-n.result ≡ length values = c.len-n.ensures ∙ (sym c.deref-member-items.ensures.len ∙ long) in
    column_end look c.args.pen.now.takers values c.args.top c.args.width c.args.height c.len-n.result (c.args.height - c.args.own) c.loop-i.i c.loop-i.invariant.1.0 c.args.lines.now c.loop-i.lines some n_is (omega (arith, long))
    (ap (λ o. c.args.height - o) c.requires.own) c.loop-i.invariant.1.3

pub draw_column-draw-requires : goal.draw_column-draw-requires
draw_column-draw-requires t c =
    let look = look_of c.args.pen.now.cfg.now in
    let takers = c.args.pen.now.takers in
    let values = c.args.members.now.items in
    let n = c.len-n.result in
    let beyond = c.args.height - c.args.own in
    let i = c.loop-i.i in
    let list = c.deref-member-items.ensures.value in
    let m = c.member-item.result in
    let is : m ≡ get_or values i m = c.member-item.is ∙ ap (λ l. get_or l i m) list in
    let long : length c.deref-member-items.result.now ≡ length values = ap length list in
    let inside : i < length values = omega (arith, long) in
    let begins = member-begins look values i m inside is c.loop-i.sizes.now c.loop-i.invariant.0.0 c.loop-i.invariant.0.2 in
    let own_is : c.first-own.result.height ≡ (box look m).height = ap (λ s. s.height) (begins-first look (nesting_of m) c.loop-i.sizes.now c.first-own.result begins c.first-own.ensures) in
    let share_is : c.share.result ≡ share takers.height beyond n i = c.share.ensures ∙ ap (λ k. share k beyond n i) c.height.ensures in
    let taken : c.in_ok-at.field-0 ≡ gap (has_horizontal look) i = c.in_ok-at.ensures.taken in
    let need = need_more look takers n beyond values i m inside is in
    let below : c.loop-i.at + c.in_ok-at.field-0 + (c.first-own.result.height + c.share.result) ≤ c.args.top + c.args.height =
    omega (arith, own_is, share_is, taken, need, c.loop-i.invariant.1.1, c.loop-i.invariant.1.2) in
    let some : 0 < length values = omega (arith, inside) in
    let column_is : (box_of look (Stacked (nestings_of values))).width ≡ widest_box look values = ap (λ b. b.width) (some-stacked look values some) in
    let widest = widest-within look values i m inside is in
    let wide : (box look m).width ≤ c.args.width = omega (arith, column_is, widest, c.requires.room.0) in
    let tall : (box look m).height ≤ c.first-own.result.height + c.share.result = omega (arith, own_is) in
    let lines : c.loop-i.at + c.in_ok-at.field-0 + (c.first-own.result.height + c.share.result) ≤ length c.draw_horizontal_before.new.lines =
    omega (arith, below, c.requires.inside, c.loop-i.invariant.1.3.long, c.in_ok-at.ensures.lines.0) in
    (first_of (search (rules, the_lemmas), grind (arith, the_lemmas, c.decreases)), search (rules, begins, wide, tall, lines))

pub draw_column-overflow_add-at-in-loop-i : goal.draw_column-overflow_add-at-in-loop-i
draw_column-overflow_add-at-in-loop-i t c =
    let look = look_of c.args.pen.now.cfg.now in
    let takers = c.args.pen.now.takers in
    let values = c.args.members.now.items in
    let n = c.len-n.result in
    let beyond = c.args.height - c.args.own in
    let i = c.loop-i.i in
    let list = c.deref-member-items.ensures.value in
    let m = c.member-item.result in
    let is : m ≡ get_or values i m = c.member-item.is ∙ ap (λ l. get_or l i m) list in
    let long : length c.deref-member-items.result.now ≡ length values = ap length list in
    let inside : i < length values = omega (arith, long) in
    let begins = member-begins look values i m inside is c.loop-i.sizes.now c.loop-i.invariant.0.0 c.loop-i.invariant.0.2 in
    let own_is : c.first-own.result.height ≡ (box look m).height = ap (λ s. s.height) (begins-first look (nesting_of m) c.loop-i.sizes.now c.first-own.result begins c.first-own.ensures) in
    let share_is : c.share.result ≡ share takers.height beyond n i = c.share.ensures ∙ ap (λ k. share k beyond n i) c.height.ensures in
    let taken : c.in_ok-at.field-0 ≡ gap (has_horizontal look) i = c.in_ok-at.ensures.taken in
    let need = need_more look takers n beyond values i m inside is in
    let below : c.loop-i.at + c.in_ok-at.field-0 + (c.first-own.result.height + c.share.result) ≤ c.args.top + c.args.height =
    omega (arith, own_is, share_is, taken, need, c.loop-i.invariant.1.1, c.loop-i.invariant.1.2) in
    let bound : c.loop-i.at + c.in_ok-at.field-0 + (c.first-own.result.height + c.share.result) ≤ length c.args.lines.now = omega (arith, below, c.requires.inside) in
    first_of (search (rules, bound), grind (arith, bound))
