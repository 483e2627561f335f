use Rattle.std.proofs.Common.{◌≡◌, ℕ, ◌<◌, inl, inr, List, length, map, replicate, subst, ap, sym, ◌∙◌}
use Rattle.std.proofs.lemmas.List.{length-map}
use Rattle.grid_config.specs.Compact.{compact_of}
use Rattle.grid_records_estimate.specs.Collecting.{PassesMax}
use Rattle.grid_records_estimate.proofs.Meets.{IfErr-told}
use Rattle.columns_table.specs.Least.{padded}
use Rattle.columns_table.proofs.Leasts.{empty-heights, empty-widths, none-of, padded-heights, padded-widths, written}
use Rattle.columns_table.proofs.SplitRows.{some-of}
use Rattle.columns_table.proofs.least.least_sizes.Goals as goal

pub returns-then-is_empty-clause-widths : goal.returns-then-is_empty-clause-widths
returns-then-is_empty-clause-widths c =
    let rows = c.args.rows.now in
    let ws = c.in_ok-widths.widths in
    empty-widths (compact_of c.args.style.now) rows.counts.items rows.cells c.requires.measured rows.whole ws.items (sym ws.ok.0 ∙ c.in_ok-widths.ensures.long) c.in_ok-widths.ensures.each
    (sym ws.ok.0 ∙ none-of ws.len c.is_empty.result c.is_empty.ensures c.if-is_empty.true)

pub returns-then-is_empty-clause-heights : goal.returns-then-is_empty-clause-heights
returns-then-is_empty-clause-heights c =
    let rows = c.args.rows.now in
    let ws = c.in_ok-widths.widths in
    c.new.ensures.items
    ∙ empty-heights (compact_of c.args.style.now) rows.counts.items rows.cells c.requires.measured rows.whole ws.items (sym ws.ok.0 ∙ c.in_ok-widths.ensures.long) c.in_ok-widths.ensures.each
    (sym ws.ok.0 ∙ none-of ws.len c.is_empty.result c.is_empty.ensures c.if-is_empty.true)

pub returns-clause-widths : goal.returns-clause-widths
returns-clause-widths c =
    let rows = c.args.rows.now in
    let style = compact_of c.args.style.now in
    let ws = c.in_ok-widths.widths in
    let long : length c.pad.new.sizes ≡ ws.len = ap (λ (xs : List ℕ). length xs) c.in_ok-pad.ensures.ok ∙ length-map c.deref_mut.result.now _ ∙ ap (λ (xs : List ℕ). length xs) c.deref_mut.ensures.value ∙ sym ws.ok.0 in
    let some : 0 < length ws.items = subst (λ n. 0 < n) ws.ok.0 (some-of ws.len c.is_empty.result c.is_empty.ensures c.if-is_empty.false) in
    written ws.len c.pad.new.sizes ws.items long
    ∙ c.in_ok-pad.ensures.ok
    ∙ ap (map (padded c.get_padding-padding.result.now.left.size c.get_padding-padding.result.now.right.size)) c.deref_mut.ensures.value
    ∙ ap (λ p. map (padded p.left.size p.right.size) ws.items) c.get_padding-padding.ensures
    ∙ sym (padded-widths style rows.counts.items rows.cells c.requires.measured rows.whole ws.items (sym ws.ok.0 ∙ c.in_ok-widths.ensures.long) c.in_ok-widths.ensures.each some)

pub returns-clause-heights : goal.returns-clause-heights
returns-clause-heights c =
    let rows = c.args.rows.now in
    let style = compact_of c.args.style.now in
    let ws = c.in_ok-widths.widths in
    let hs = c.in_ok-heights.heights in
    let long : length c.pad-2.new.sizes ≡ hs.len = ap (λ (xs : List ℕ). length xs) c.in_ok-pad-2.ensures.ok ∙ length-map c.deref_mut-2.result.now _ ∙ ap (λ (xs : List ℕ). length xs) c.deref_mut-2.ensures.value ∙ sym hs.ok.0 in
    let some : 0 < length ws.items = subst (λ n. 0 < n) ws.ok.0 (some-of ws.len c.is_empty.result c.is_empty.ensures c.if-is_empty.false) in
    let ones : hs.items ≡ replicate (length rows.counts.items) 1 = c.in_ok-heights.ensures.items_if_clones_equal (λ y same. same) ∙ ap (λ n. replicate n 1) (c.len.ensures ∙ rows.counts.ok.0) in
    written hs.len c.pad-2.new.sizes hs.items long
    ∙ c.in_ok-pad-2.ensures.ok
    ∙ ap (map (padded c.get_padding-padding.result.now.top.size c.get_padding-padding.result.now.bottom.size)) (c.deref_mut-2.ensures.value ∙ ones)
    ∙ ap (λ p. map (padded p.top.size p.bottom.size) (replicate (length rows.counts.items) 1)) c.get_padding-padding.ensures
    ∙ sym (padded-heights style rows.counts.items rows.cells c.requires.measured rows.whole ws.items (sym ws.ok.0 ∙ c.in_ok-widths.ensures.long) c.in_ok-widths.ensures.each some)

pub returns-in_err-pad-clause-refused : goal.returns-in_err-pad-clause-refused
returns-in_err-pad-clause-refused c =
    let rows = c.args.rows.now in
    let style = compact_of c.args.style.now in
    let ws = c.in_ok-widths.widths in
    let some : 0 < length ws.items = subst (λ n. 0 < n) ws.ok.0 (some-of ws.len c.is_empty.result c.is_empty.ensures c.if-is_empty.false) in
    let same =
    ap (map (padded c.get_padding-padding.result.now.left.size c.get_padding-padding.result.now.right.size)) c.deref_mut.ensures.value
    ∙ ap (λ p. map (padded p.left.size p.right.size) ws.items) c.get_padding-padding.ensures
    ∙ sym (padded-widths style rows.counts.items rows.cells c.requires.measured rows.whole ws.items (sym ws.ok.0 ∙ c.in_ok-widths.ensures.long) c.in_ok-widths.ensures.each some) in
    IfErr-told c.from_residual-in_err-pad.result c.in_err-pad.field-0.0 _ c.from_residual-in_err-pad.ensures.1
    (inr (c.in_err-pad.ensures.fault, inl (subst PassesMax same c.in_err-pad.ensures.range)))

pub returns-in_err-pad-2-clause-refused : goal.returns-in_err-pad-2-clause-refused
returns-in_err-pad-2-clause-refused c =
    let rows = c.args.rows.now in
    let style = compact_of c.args.style.now in
    let ws = c.in_ok-widths.widths in
    let hs = c.in_ok-heights.heights in
    let some : 0 < length ws.items = subst (λ n. 0 < n) ws.ok.0 (some-of ws.len c.is_empty.result c.is_empty.ensures c.if-is_empty.false) in
    let ones : hs.items ≡ replicate (length rows.counts.items) 1 = c.in_ok-heights.ensures.items_if_clones_equal (λ y same. same) ∙ ap (λ n. replicate n 1) (c.len.ensures ∙ rows.counts.ok.0) in
    let same =
    ap (map (padded c.get_padding-padding.result.now.top.size c.get_padding-padding.result.now.bottom.size)) (c.deref_mut-2.ensures.value ∙ ones)
    ∙ ap (λ p. map (padded p.top.size p.bottom.size) (replicate (length rows.counts.items) 1)) c.get_padding-padding.ensures
    ∙ sym (padded-heights style rows.counts.items rows.cells c.requires.measured rows.whole ws.items (sym ws.ok.0 ∙ c.in_ok-widths.ensures.long) c.in_ok-widths.ensures.each some) in
    IfErr-told c.from_residual-in_err-pad-2.result c.in_err-pad-2.field-0.0 _ c.from_residual-in_err-pad-2.ensures.1
    (inr (c.in_err-pad-2.ensures.fault, inr (subst PassesMax same c.in_err-pad-2.ensures.range)))
