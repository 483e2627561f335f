-- What is left gives the same result from where the loop is, and those passed are tested.
use Rattle.std.proofs.Common.{◌≡◌, ◌+◌, drop, take}
use Rattle.std.specs.List.{prefix_len}
use Rattle.columns_run.specs.Ends.{is_cell_text}
use Rattle.grid_records_measure.specs.Measures.{are_printable}
use Rattle.columns_run.proofs.styled_rows.tested_run.Given as goal

abbrev pub invariant-loop-i : goal.invariant-loop-i
invariant-loop-i l = record {
  run : l.i + prefix_len is_cell_text (drop l.i l.text) ≡ prefix_len is_cell_text l.text;
  tested : l.printable ≡ are_printable (take l.i l.text);
}
