use Rattle.std.proofs.Common.{ℕ, ap, sym, ◌∙◌, map, max}
use Rattle.std.specs.List.{range_with_len}
use Rattle.grid_records_estimate.specs.Estimates.{greatest, smallest}
use Rattle.tabled_width.specs.Measures.{row_widths}
use Rattle.tabled_width.proofs.Measuring.{greatest-next}
use Rattle.tabled_width.proofs.measures.MinMeasurementWidth.measure.Goals as goal

pub loop-row-preserved : goal.loop-row-preserved
loop-row-preserved g c =
    let f : ℕ → ℕ = λ row. smallest (row_widths (g.R.RecordColumns.columns c.args.records.now) (g.R.RecordTexts.rows c.args.records.now) row) in
    let row = c.loop-row.row in
    c.greater-widest.ensures ∙ ap (λ n. max n c.smallest_in_row.result) c.loop-row.invariant ∙ ap (λ n. max (greatest (map f (range_with_len 0 row))) n) c.smallest_in_row.ensures
    ∙ sym (greatest-next f row)
