use Rattle.std.proofs.Common.{◌≤◌, ◌-◌, ◌+◌, max, length}
use Rattle.columns_run.specs.Passing.{HasPassed}
use Rattle.columns_run.proofs.PrintableCells.{HasOthers}
use Rattle.columns_run.proofs.printable_cells.push_printable_cells.Given as goal

abbrev pub invariant-loop-others : goal.invariant-loop-others
invariant-loop-others l = record {
  most : l.start ≤ l.at + 64;
  has : HasOthers l.text l.at l.start l.others;
  passed : HasPassed l.text l.start (max l.at l.start) l.rows;
}

abbrev pub decreases-loop-others : goal.decreases-loop-others
decreases-loop-others l = l.at + 64 - max l.at l.start

abbrev pub invariant-loop-at : goal.invariant-loop-at
invariant-loop-at l = record {
  goes_on : l.first ≤ l.at;
  low : l.start ≤ l.at;
  passed : HasPassed l.text l.start l.at l.rows;
}

abbrev pub decreases-loop-at : goal.decreases-loop-at
decreases-loop-at l = length l.text - l.at
