-- The texts of the rows that were read, and those that are left, are all.
use Rattle.std.proofs.Common.{◌≡◌, ◌++◌, drop, length}
use Rattle.grid_records_traits.specs.Sources.{texts_of_rows}
use Rattle.tabled_compact.proofs.iter.reading.read.Given as goal

abbrev pub invariant-loop-cells : goal.invariant-loop-cells
invariant-loop-cells g l =
    let all = g.R.RecordTexts.rows l.fn.source in
    texts_of_rows g.R.Cell.Cell.text l.rows.items ++ drop (length l.yielded) all ≡ all
