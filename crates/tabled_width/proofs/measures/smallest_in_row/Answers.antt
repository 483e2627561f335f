use Rattle.std.proofs.Common.{◌≡◌, ◌==◌, ℕ, ap, ◌∙◌, min, if◌then◌else◌}
use Rattle.grid_records_estimate.specs.Sizing.{position_at}
use Rattle.grid_records_measure.specs.TextLines.{text_width}
use Rattle.grid_records_traits.specs.Rows.{text_at}
use Rattle.tabled_width_texts.proofs.Measuring.{text_width-is}
use Rattle.tabled_width.proofs.Measuring.{smallest-next}
use Rattle.tabled_width.proofs.measures.smallest_in_row.Goals as goal

pub loop-column-preserved : goal.loop-column-preserved
loop-column-preserved g c =
    let rows = g.R.RecordTexts.rows c.args.records.now in
    let f : ℕ → ℕ = λ column. text_width (text_at rows (position_at c.args.row column)) in
    let column = c.loop-column.column in
    let is : c.get_width-width.result ≡ f column = text_width-is (text_at rows c.new.result) c.get_width-width.result c.get_width-width.ensures ∙ ap (λ p. text_width (text_at rows p)) c.new.ensures in
    c.lesser-narrowest.ensures ∙ ap (λ n. if column == 0 then n else min c.loop-column.narrowest n) is ∙ smallest-next f column c.loop-column.narrowest c.loop-column.invariant
