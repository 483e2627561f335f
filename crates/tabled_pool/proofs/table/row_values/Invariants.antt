-- The rows that were read, and those that are left, are all.
use Rattle.std.proofs.Common.{◌≡◌, ◌++◌, drop, length, map}
use Rattle.tabled_pool.specs.Pools.{row_nesting}
use Rattle.tabled_pool.specs.Boxes.Values.{nesting_of}
use Rattle.tabled_pool.proofs.table.row_values.Given as goal

abbrev pub invariant-loop-cells : goal.invariant-loop-cells
invariant-loop-cells g l =
    let all = g.I.RecordTexts.rows l.fn.records in
    map nesting_of l.rows.items ++ map row_nesting (drop (length l.yielded) all) ≡ map row_nesting all
