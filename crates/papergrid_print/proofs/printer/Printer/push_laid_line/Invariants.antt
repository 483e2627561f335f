use denote.Shadow.{shadow}
use denote.Text.{Utf8}
use Rattle.std.proofs.Common.{string_bytes}
use Rattle.papergrid_print.specs.FlatSheets.{HasLaidFirst}
use Rattle.papergrid_print.specs.Printed.{table_sheet}
use Rattle.papergrid_print.proofs.printer.Printer.push_laid_line.Given as goal

abbrev pub invariant-loop-j : goal.invariant-loop-j
invariant-loop-j g l = record {
  laid : HasLaidFirst (table_sheet l.self) l.flat l.empty l.i l.y l.j (string_bytes l.fn.out) (string_bytes l.out) l.left;
  utf8 : shadow (Utf8 l.left);
}
