-- The rows that are kept, and those that are left, are the source's.
use Rattle.std.proofs.Common.{◌≡◌, ◌++◌, length}
use Rattle.grid_records_traits.specs.Sources.{texts_of_rows}
use Rattle.grid_records.proofs.rows.records.into_records.buf_records.BufRecords.new.Given as goal

abbrev pub invariant-loop : goal.invariant-loop
invariant-loop g l =
    record {
      rows : texts_of_rows g.I.Cell.Cell.text l.kept.items ++ g.I.IntoRecords.rows_left l.rest ≡ g.I.IntoRecords.rows_left l.initial.rest;
      refuses : g.I.IntoRecords.can_fail_left l.rest ≡ g.I.IntoRecords.can_fail_left l.initial.rest;
      count : length l.kept.items ≡ l.counter;
    }
