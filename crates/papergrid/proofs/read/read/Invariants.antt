-- The texts of the rows that were read, and those that are left, are all.
use Rattle.std.proofs.Common.{◌≡◌, ◌++◌, drop, length}
use Rattle.grid_records_traits.specs.Rows.{evened}
use Rattle.grid_records_traits.specs.Sources.{texts_of_rows}
use Rattle.papergrid.proofs.read.read.Given as goal

abbrev pub invariant-loop-cells : goal.invariant-loop-cells
invariant-loop-cells g l =
    let all = evened (g.R.RecordColumns.columns l.fn.records) (g.R.RecordTexts.rows l.fn.records) in
    texts_of_rows g.R.Iter.Cell.Cell.text l.rows.items ++ drop (length l.yielded) all ≡ all
