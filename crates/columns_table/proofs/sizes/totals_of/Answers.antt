use Rattle.std.proofs.Common.{◌∙◌, length, arith}
use Rattle.grid_config.specs.Compact.{compact_of}
use Rattle.grid_records_estimate.proofs.Meets.{IfErr-told}
use Rattle.columns_table.proofs.SplitRows.{across-is, down-is, height-total, in_range, some-of, too_high, too_wide, width-total}
use Rattle.columns_table.proofs.sizes.totals_of.Goals as goal

pub returns-in_err-columns-clause-refused : goal.returns-in_err-columns-clause-refused
returns-in_err-columns-clause-refused c =
    let style = compact_of c.args.style.now in
    let widths = c.args.widths.now in
    let heights = c.args.heights.now in
    let wide = some-of (length widths) c.is_empty.result c.is_empty.ensures c.if-is_empty.false in
    let high = some-of (length heights) c.is_empty-else-is_empty.result c.is_empty-else-is_empty.ensures c.if-is_empty-2.false in
    let same = across-is style widths heights c.get_borders-borders.result.now c.get_margin-margin.result.now c.get_borders-borders.ensures c.get_margin-margin.ensures c.count_vertical-boundaries.result c.count_vertical-boundaries.ensures in
    IfErr-told c.from_residual.result c.in_err-columns.field-0.0 _ c.from_residual.ensures.1
    (c.in_err-columns.ensures.refused.0, too_wide style widths heights wide high (let over = c.in_err-columns.ensures.refused.1 in omega (arith, over, same)))

pub returns-in_err-lines-clause-refused : goal.returns-in_err-lines-clause-refused
returns-in_err-lines-clause-refused c =
    let style = compact_of c.args.style.now in
    let widths = c.args.widths.now in
    let heights = c.args.heights.now in
    let wide = some-of (length widths) c.is_empty.result c.is_empty.ensures c.if-is_empty.false in
    let high = some-of (length heights) c.is_empty-else-is_empty.result c.is_empty-else-is_empty.ensures c.if-is_empty-2.false in
    let same = down-is style widths heights c.get_borders-borders.result.now c.get_margin-margin.result.now c.get_borders-borders.ensures c.get_margin-margin.ensures c.count_horizontal-boundaries.result c.count_horizontal-boundaries.ensures in
    IfErr-told c.from_residual-in_err-lines.result c.in_err-lines.field-0.0 _ c.from_residual-in_err-lines.ensures.1
    (c.in_err-lines.ensures.refused.0, too_high style widths heights wide high (let over = c.in_err-lines.ensures.refused.1 in omega (arith, over, same)))

pub returns-clause-columns : goal.returns-clause-columns
returns-clause-columns c =
    let style = compact_of c.args.style.now in
    let widths = c.args.widths.now in
    let heights = c.args.heights.now in
    let wide = some-of (length widths) c.is_empty.result c.is_empty.ensures c.if-is_empty.false in
    let high = some-of (length heights) c.is_empty-else-is_empty.result c.is_empty-else-is_empty.ensures c.if-is_empty-2.false in
    c.in_ok-columns.ensures.ok
    ∙ across-is style widths heights c.get_borders-borders.result.now c.get_margin-margin.result.now c.get_borders-borders.ensures c.get_margin-margin.ensures c.count_vertical-boundaries.result c.count_vertical-boundaries.ensures
    ∙ width-total style widths heights wide high

pub returns-clause-lines : goal.returns-clause-lines
returns-clause-lines c =
    let style = compact_of c.args.style.now in
    let widths = c.args.widths.now in
    let heights = c.args.heights.now in
    let wide = some-of (length widths) c.is_empty.result c.is_empty.ensures c.if-is_empty.false in
    let high = some-of (length heights) c.is_empty-else-is_empty.result c.is_empty-else-is_empty.ensures c.if-is_empty-2.false in
    c.in_ok-lines.ensures.ok
    ∙ down-is style widths heights c.get_borders-borders.result.now c.get_margin-margin.result.now c.get_borders-borders.ensures c.get_margin-margin.ensures c.count_horizontal-boundaries.result c.count_horizontal-boundaries.ensures
    ∙ height-total style widths heights wide high

pub returns-clause-fits : goal.returns-clause-fits
returns-clause-fits c =
    let style = compact_of c.args.style.now in
    let widths = c.args.widths.now in
    let heights = c.args.heights.now in
    let wide = some-of (length widths) c.is_empty.result c.is_empty.ensures c.if-is_empty.false in
    let high = some-of (length heights) c.is_empty-else-is_empty.result c.is_empty-else-is_empty.ensures c.if-is_empty-2.false in
    let w = across-is style widths heights c.get_borders-borders.result.now c.get_margin-margin.result.now c.get_borders-borders.ensures c.get_margin-margin.ensures c.count_vertical-boundaries.result c.count_vertical-boundaries.ensures in
    let h = down-is style widths heights c.get_borders-borders.result.now c.get_margin-margin.result.now c.get_borders-borders.ensures c.get_margin-margin.ensures c.count_horizontal-boundaries.result c.count_horizontal-boundaries.ensures in
    in_range style widths heights wide high (omega (arith, w, c.in_ok-columns.ensures.ok)) (omega (arith, h, c.in_ok-lines.ensures.ok))
