use Rattle.std.proofs.Common.{◌≡◌, ◌∙◌, ap}
use Rattle.grid_config_values.specs.declared.position.Position.{Position}
use Rattle.grid_records_estimate.specs.Sizing.{position_at}
use Rattle.grid_records_measure.specs.TextLines.{text_height}
use Rattle.grid_records_traits.specs.Rows.{text_at}
use Rattle.tabled_height.proofs.Counting.{counts_lines, one_more}
use Rattle.tabled_height.proofs.height.row_lines.Goals as goal

pub loop-column-preserved : goal.loop-column-preserved
loop-column-preserved g c =
    let rows = g.R.RecordTexts.rows c.args.records.now in
    let here : c.count_lines.result ≡ text_height (text_at rows (position_at c.args.row c.loop-column.column)) =
    counts_lines (text_at rows c.new.result) c.count_lines.result c.count_lines.ensures ∙ ap (λ (p : Position). text_height (text_at rows p)) c.new.ensures in
    one_more (λ column. text_height (text_at rows (position_at c.args.row column))) c.loop-column.column c.loop-column.most c.max-most.result c.count_lines.result
    c.loop-column.invariant here c.max-most.ensures
