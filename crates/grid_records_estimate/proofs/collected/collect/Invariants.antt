use Rattle.std.proofs.Common.{◌≡◌, ◌≤◌, [], length, drop}
use Rattle.grid_records_traits.specs.Rows.{evened}
use Rattle.grid_records_estimate.specs.CollectedNeeds.{HasRead}
use Rattle.grid_records_estimate.proofs.OneCellRead.{TableRead}
use Rattle.grid_records_estimate.proofs.collected.collect.Given as goal

abbrev pub invariant-loop-cells : goal.invariant-loop-cells
invariant-loop-cells g l =
    let rows = evened (g.R.RecordColumns.columns l.fn.records) (g.R.RecordTexts.rows l.fn.records) in
    let sizing = g.S.Sizing.sizing l.cfg in
    record {
      row_is : l.row ≡ length l.yielded;
      inside : length l.yielded ≤ length rows;
      read : HasRead sizing l.initial.widths l.initial.heights [] → TableRead sizing l.widths l.heights l.row (drop (length l.yielded) rows) rows;
    }
