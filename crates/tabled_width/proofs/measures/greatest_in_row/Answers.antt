use Rattle.std.proofs.Common.{◌≡◌, ℕ, ap, sym, ◌∙◌, map, max}
use Rattle.std.specs.List.{range_with_len}
use Rattle.grid_records_estimate.specs.Sizing.{position_at}
use Rattle.grid_records_measure.specs.TextLines.{text_width}
use Rattle.grid_records_traits.specs.Rows.{text_at}
use Rattle.tabled_width_texts.proofs.Measuring.{text_width-is}
use Rattle.tabled_width.proofs.Measuring.{greatest-next}
use Rattle.tabled_width.proofs.measures.greatest_in_row.Goals as goal

pub loop-column-preserved : goal.loop-column-preserved
loop-column-preserved g c =
    let rows = g.R.RecordTexts.rows c.args.records.now in
    let f : ℕ → ℕ = λ column. text_width (text_at rows (position_at c.args.row column)) in
    let column = c.loop-column.column in
    let is : c.get_width-width.result ≡ f column = text_width-is (text_at rows c.new.result) c.get_width-width.result c.get_width-width.ensures ∙ ap (λ p. text_width (text_at rows p)) c.new.ensures in
    c.greater-widest.ensures ∙ ap (λ n. max n c.get_width-width.result) c.loop-column.invariant ∙ ap (λ n. max (Rattle.grid_records_estimate.specs.Estimates.greatest (map f (range_with_len 0 column))) n) is
    ∙ sym (greatest-next f column)
