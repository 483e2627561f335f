-- The rows so far are counted.
use Rattle.std.proofs.Common.{◌≡◌, map}
use Rattle.std.specs.List.{range_with_len}
use Rattle.grid_records_estimate.specs.Estimates.{greatest}
use Rattle.tabled_height.specs.Heights.{row_lines}
use Rattle.tabled_height.proofs.height.most_lines.Given as goal

abbrev pub invariant-loop-row : goal.invariant-loop-row
invariant-loop-row g l = l.most ≡ greatest (map (row_lines (g.R.RecordColumns.columns l.records) (g.R.RecordTexts.rows l.records)) (range_with_len 0 l.row))
