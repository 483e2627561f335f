use Rattle.std.proofs.Common.{◌≡◌, map}
use Rattle.std.specs.List.{range_with_len}
use Rattle.grid_records_estimate.specs.Estimates.{smallest}
use Rattle.grid_records_estimate.specs.Sizing.{position_at}
use Rattle.grid_records_measure.specs.TextLines.{text_width}
use Rattle.grid_records_traits.specs.Rows.{text_at}
use Rattle.tabled_width.proofs.measures.smallest_in_row.Given as goal

abbrev pub invariant-loop-column : goal.invariant-loop-column
invariant-loop-column g l = l.narrowest ≡ smallest (map (λ column. text_width (text_at (g.R.RecordTexts.rows l.records) (position_at l.row column))) (range_with_len 0 l.column))
