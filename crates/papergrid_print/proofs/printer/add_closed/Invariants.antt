use Rattle.std.proofs.Common.{◌≡◌, ℕ, None, get_or, length}
use Rattle.papergrid_print.proofs.printer.add_closed.Given as goal

abbrev pub invariant-loop : goal.invariant-loop
invariant-loop l = record {
  wide : length l.cells.items ≡ l.counter;
  same : (column : ℕ) → get_or l.cells.items column None ≡ get_or l.initial.cells.items column None;
}
