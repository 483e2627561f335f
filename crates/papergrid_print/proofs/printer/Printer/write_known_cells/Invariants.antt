use Rattle.std.proofs.Common.{ℕ, List}
use Rattle.std.specs.Prelude.{IsUtf8}
use Rattle.papergrid_print.specs.FlatSheets.{HasWrittenFirst}
use Rattle.papergrid_print.specs.Printed.{table_sheet}
use Rattle.papergrid_print.proofs.printer.Printer.write_known_cells.Given as goal

abbrev pub invariant-loop-column : goal.invariant-loop-column
invariant-loop-column g l = record {
  written : (begin : List ℕ) → HasWrittenFirst (table_sheet l.self) l.flat l.empty l.i 0 begin l.fn.line
      → HasWrittenFirst (table_sheet l.self) l.flat l.empty l.i l.column begin l.line;
  utf8 : IsUtf8 l.fn.line → IsUtf8 l.line;
}
