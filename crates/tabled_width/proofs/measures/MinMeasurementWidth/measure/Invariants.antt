use Rattle.std.proofs.Common.{◌≡◌, map}
use Rattle.std.specs.List.{range_with_len}
use Rattle.grid_records_estimate.specs.Estimates.{greatest, smallest}
use Rattle.tabled_width.specs.Measures.{row_widths}
use Rattle.tabled_width.proofs.measures.MinMeasurementWidth.measure.Given as goal

abbrev pub invariant-loop-row : goal.invariant-loop-row
invariant-loop-row g l = l.widest ≡ greatest (map (λ row. smallest (row_widths (g.R.RecordColumns.columns l.records) (g.R.RecordTexts.rows l.records) row)) (range_with_len 0 l.row))
