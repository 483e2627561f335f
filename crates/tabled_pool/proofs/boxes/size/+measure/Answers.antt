use Rattle.std.proofs.Common.{◌≡◌, ◌<◌, ◌≤◌, ◌+◌, ◌^◌, ◌∷◌, ◌++◌, length, set, refl, ap, sym, ◌∙◌, arith, rules}
use Rattle.grid_config.specs.Looks.{look_of}
use Rattle.tabled_pool.specs.Boxes.Boxes.{box_of, boxes_of, gaps, has_horizontal, has_upright}
use Rattle.tabled_pool.specs.declared.boxes.size.Size.{Size}
use Rattle.tabled_pool.specs.Boxes.Sizes.{IsTooLarge, sizes_of_all}
use Rattle.tabled_pool.specs.Boxes.Values.{Beside, Stacked, nesting_of, nestings_of}
use Rattle.tabled_pool.proofs.BoxesLemmas.Sizes.{column-own, column-sum-too-large, column-too-large, lengths, not-empty, row-own, row-sum-too-large, row-too-large, sizes-end}
use Rattle.tabled_pool.proofs.boxes.size.+measure.Goals as goal

pub push_row_sizes-loop-member-init : goal.push_row_sizes-loop-member-init
push_row_sizes-loop-member-init t c =
    let look = look_of c.args.cfg.now in
    let values = c.deref-member-items.result.now in
    let n_is : c.len.result ≡ length (boxes_of look (nestings_of values)) = c.len.ensures ∙ (sym c.deref-member-items.ensures.len ∙ sym (lengths look values)) in
    let gaps_are : c.gaps-width.result ≡ gaps (has_upright look) (length (boxes_of look (nestings_of values))) =
    c.gaps-width.ensures ∙ (ap (λ b. gaps b c.len.result) c.has_vertical.ensures ∙ ap (gaps (has_upright look)) n_is) in
    (omega (arith, gaps_are), omega arith, refl)

pub push_row_sizes-returns-in_err-inner-clause-range : goal.push_row_sizes-returns-in_err-inner-clause-range
push_row_sizes-returns-in_err-inner-clause-range t c =
    let look = look_of c.args.cfg.now in
    let values = c.deref-member-items.result.now in
    let some : 0 < length values = not-empty c.is_empty.result _ (length values) c.is_empty.ensures c.if-is_empty.false c.deref-member-items.ensures.len in
    let member = c.member-item.result in
    let up : IsTooLarge (box_of look (nesting_of member)) → IsTooLarge (box_of look (Beside (nestings_of c.args.members.now.items))) =
    λ large. rw (sym c.deref-member-items.ensures.value) (row-too-large look values c.loop-member.member-index member (omega arith) c.member-item.is c.loop-member.width c.loop-member.height some c.loop-member.invariant.0 c.loop-member.invariant.1 large) in
    search (rules, up)

pub push_row_sizes-returns-in_err-width-clause-range : goal.push_row_sizes-returns-in_err-width-clause-range
push_row_sizes-returns-in_err-width-clause-range t c =
    let look = look_of c.args.cfg.now in
    let values = c.deref-member-items.result.now in
    let some : 0 < length values = not-empty c.is_empty.result _ (length values) c.is_empty.ensures c.if-is_empty.false c.deref-member-items.ensures.len in
    let member = c.member-item.result in
    let inner_is : c.in_ok-inner.inner.width ≡ (box_of look (nesting_of member)).width = ap (λ size. size.width) c.in_ok-inner.ensures.own in
    let large : 2 ^ 64 ≤ c.loop-member.width + (box_of look (nesting_of member)).width = omega (arith, inner_is, c.in_err-width.ensures.range.1) in
    let up : IsTooLarge (box_of look (Beside (nestings_of c.args.members.now.items))) =
    rw (sym c.deref-member-items.ensures.value) (row-sum-too-large look values c.loop-member.member-index member (omega arith) c.member-item.is c.loop-member.width some c.loop-member.invariant.0 large) in
    search (rules, up)

pub push_row_sizes-returns-clause-own : goal.push_row_sizes-returns-clause-own
push_row_sizes-returns-clause-own t c =
    let look = look_of c.args.cfg.now in
    let values = c.deref-member-items.result.now in
    let some : 0 < length values = not-empty c.is_empty.result _ (length values) c.is_empty.ensures c.if-is_empty.false c.deref-member-items.ensures.len in
    row-own look values c.args.members.now.items c.loop-member.member-index c.loop-member.width c.loop-member.height c.deref-member-items.ensures.value some (omega arith) c.loop-member.invariant.0 c.loop-member.invariant.1

pub push_column_sizes-loop-member-init : goal.push_column_sizes-loop-member-init
push_column_sizes-loop-member-init t c =
    let look = look_of c.args.cfg.now in
    let values = c.deref-member-items.result.now in
    let n_is : c.len.result ≡ length (boxes_of look (nestings_of values)) = c.len.ensures ∙ (sym c.deref-member-items.ensures.len ∙ sym (lengths look values)) in
    let gaps_are : c.gaps-height.result ≡ gaps (has_horizontal look) (length (boxes_of look (nestings_of values))) =
    c.gaps-height.ensures ∙ (ap (λ b. gaps b c.len.result) c.has_horizontal.ensures ∙ ap (gaps (has_horizontal look)) n_is) in
    (omega arith, omega (arith, gaps_are), refl)

pub push_column_sizes-returns-in_err-inner-clause-range : goal.push_column_sizes-returns-in_err-inner-clause-range
push_column_sizes-returns-in_err-inner-clause-range t c =
    let look = look_of c.args.cfg.now in
    let values = c.deref-member-items.result.now in
    let some : 0 < length values = not-empty c.is_empty.result _ (length values) c.is_empty.ensures c.if-is_empty.false c.deref-member-items.ensures.len in
    let member = c.member-item.result in
    let up : IsTooLarge (box_of look (nesting_of member)) → IsTooLarge (box_of look (Stacked (nestings_of c.args.members.now.items))) =
    λ large. rw (sym c.deref-member-items.ensures.value) (column-too-large look values c.loop-member.member-index member (omega arith) c.member-item.is c.loop-member.width c.loop-member.height some c.loop-member.invariant.0 c.loop-member.invariant.1 large) in
    search (rules, up)

pub push_column_sizes-returns-in_err-height-clause-range : goal.push_column_sizes-returns-in_err-height-clause-range
push_column_sizes-returns-in_err-height-clause-range t c =
    let look = look_of c.args.cfg.now in
    let values = c.deref-member-items.result.now in
    let some : 0 < length values = not-empty c.is_empty.result _ (length values) c.is_empty.ensures c.if-is_empty.false c.deref-member-items.ensures.len in
    let member = c.member-item.result in
    let inner_is : c.in_ok-inner.inner.height ≡ (box_of look (nesting_of member)).height = ap (λ size. size.height) c.in_ok-inner.ensures.own in
    let large : 2 ^ 64 ≤ c.loop-member.height + (box_of look (nesting_of member)).height = omega (arith, inner_is, c.in_err-height.ensures.range.1) in
    let up : IsTooLarge (box_of look (Stacked (nestings_of c.args.members.now.items))) =
    rw (sym c.deref-member-items.ensures.value) (column-sum-too-large look values c.loop-member.member-index member (omega arith) c.member-item.is c.loop-member.height some c.loop-member.invariant.1 large) in
    search (rules, up)

pub push_column_sizes-returns-clause-own : goal.push_column_sizes-returns-clause-own
push_column_sizes-returns-clause-own t c =
    let look = look_of c.args.cfg.now in
    let values = c.deref-member-items.result.now in
    let some : 0 < length values = not-empty c.is_empty.result _ (length values) c.is_empty.ensures c.if-is_empty.false c.deref-member-items.ensures.len in
    column-own look values c.args.members.now.items c.loop-member.member-index c.loop-member.width c.loop-member.height c.deref-member-items.ensures.value some (omega arith) c.loop-member.invariant.0 c.loop-member.invariant.1

pub push_row_sizes-returns-clause-sizes : goal.push_row_sizes-returns-clause-sizes
push_row_sizes-returns-clause-sizes t c =
    let look = look_of c.args.cfg.now in
    let values = c.deref-member-items.result.now in
    let some : 0 < length values = not-empty c.is_empty.result _ (length values) c.is_empty.ensures c.if-is_empty.false c.deref-member-items.ensures.len in
    let own = row-own look values c.args.members.now.items c.loop-member.member-index c.loop-member.width c.loop-member.height c.deref-member-items.ensures.value some (omega arith) c.loop-member.invariant.0 c.loop-member.invariant.1 in
    let at : c.len-at.result ≡ length c.args.sizes.now.items = omega (arith, c.len-at.ensures, c.args.sizes.now.ok.0) in
    let size : Size = record { width = c.loop-member.width; height = c.loop-member.height } in
    ap (λ n. set c.loop-member.sizes.items n size) at
    ∙ (sizes-end look values c.args.members.now.items c.args.sizes.now.items c.push_size.new.sizes.items c.loop-member.sizes.items _ size c.loop-member.member-index c.deref-member-items.ensures.value (omega arith) c.in_ok-push_size.ensures c.loop-member.invariant.2
    ∙ ap (λ s. c.args.sizes.now.items ++ s ∷ sizes_of_all look (nestings_of c.args.members.now.items)) own)

pub push_column_sizes-returns-clause-sizes : goal.push_column_sizes-returns-clause-sizes
push_column_sizes-returns-clause-sizes t c =
    let look = look_of c.args.cfg.now in
    let values = c.deref-member-items.result.now in
    let some : 0 < length values = not-empty c.is_empty.result _ (length values) c.is_empty.ensures c.if-is_empty.false c.deref-member-items.ensures.len in
    let own = column-own look values c.args.members.now.items c.loop-member.member-index c.loop-member.width c.loop-member.height c.deref-member-items.ensures.value some (omega arith) c.loop-member.invariant.0 c.loop-member.invariant.1 in
    let at : c.len-at.result ≡ length c.args.sizes.now.items = omega (arith, c.len-at.ensures, c.args.sizes.now.ok.0) in
    let size : Size = record { width = c.loop-member.width; height = c.loop-member.height } in
    ap (λ n. set c.loop-member.sizes.items n size) at
    ∙ (sizes-end look values c.args.members.now.items c.args.sizes.now.items c.push_size.new.sizes.items c.loop-member.sizes.items _ size c.loop-member.member-index c.deref-member-items.ensures.value (omega arith) c.in_ok-push_size.ensures c.loop-member.invariant.2
    ∙ ap (λ s. c.args.sizes.now.items ++ s ∷ sizes_of_all look (nestings_of c.args.members.now.items)) own)
