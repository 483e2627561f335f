-- The rows so far are counted.
use Rattle.std.proofs.Common.{◌≡◌, map}
use Rattle.std.specs.List.{range_with_len}
use Rattle.tabled_height.specs.Heights.{row_lines}
use Rattle.grid_records_estimate.specs.Estimates.{smallest}
use Rattle.tabled_height.proofs.height.fewest_lines.Given as goal

abbrev pub invariant-loop-row : goal.invariant-loop-row
invariant-loop-row g l = l.fewest ≡ smallest (map (row_lines (g.R.RecordColumns.columns l.records) (g.R.RecordTexts.rows l.records)) (range_with_len 0 l.row))
