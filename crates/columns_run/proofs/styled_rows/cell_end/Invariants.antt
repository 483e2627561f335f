-- The place that is sought stays the same, no byte of the cell comes first, no sequence so far was broken, and what is
-- passed is counted.
use Rattle.std.proofs.Common.{◌≡◌, ◌≤◌, ◌+◌, ◌↔◌, length}
use Rattle.std.specs.List.{prefix_len}
use Rattle.ansi_scan.specs.Sequences.{IsWhole}
use Rattle.columns_run.specs.Ends.{is_cell_text, EndsPass}
use Rattle.columns_run.proofs.Ends.{SameEnd}
use Rattle.columns_run.proofs.styled_rows.cell_end.Given as goal

abbrev pub invariant-loop-end : goal.invariant-loop-end
invariant-loop-end l = record {
  same : SameEnd l.end.rest.now l.end.style l.place.rest.now l.place.style;
  none : prefix_len is_cell_text l.end.rest.now ≡ 0;
  whole : IsWhole l.end.rest.now ↔ IsWhole l.place.rest.now;
  passes : EndsPass l.place.rest.now l.end.rest.now l.size l.printable;
  fits : l.size + length l.end.rest.now ≤ length l.place.rest.now;
}

abbrev pub decreases-loop-end : goal.decreases-loop-end
decreases-loop-end l = length l.end.rest.now
