use Rattle.std.proofs.Common.{◌≡◌, ◌++◌, string_bytes}
use Rattle.papergrid_print.specs.Printed.{table_sheet}
use Rattle.papergrid_print.proofs.LinesShown.{row_start}
use Rattle.papergrid_print.proofs.printer.Printer.push_drawn_line.Given as goal

abbrev pub invariant-loop-j : goal.invariant-loop-j
invariant-loop-j g l = string_bytes l.out ≡ string_bytes l.initial.out ++ row_start (table_sheet l.self) l.i l.y l.j
