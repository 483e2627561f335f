use Rattle.std.proofs.Common.{◌++◌, ◌∙◌, ap, arith, string_bytes, subst, sym}
use Rattle.papergrid_picture.specs.Frame.{Boundary}
use Rattle.papergrid_print.specs.FlatSheets.{IsBetweenOrNone}
use Rattle.papergrid_print.specs.Sheets.{sheet_line}
use Rattle.papergrid_print.specs.Printed.{table_sheet}
use Rattle.papergrid_print.proofs.Standing.{behind-feed}
use Rattle.papergrid_print.proofs.Writes.{on-pushed}
use Rattle.papergrid_print.proofs.printer.Printer.push_boundary_again.Goals as goal

pub returns-in-Some-line_behind_feed : goal.returns-in-Some-line_behind_feed
returns-in-Some-line_behind_feed g c =
    let S = table_sheet c.args.self.now in
    let out = string_bytes c.args.out.now in
    let line = c.in-Some-line_behind_feed.line.now in
    let kept = subst (λ made. IsBetweenOrNone S made) c.in-Some.is c.requires.between c.args.i c.args.y (omega arith) (omega arith) in
    let shown = sheet_line S (Boundary c.args.i) c.args.y in
    let same = ap (λ l. out ++ l) (behind-feed line shown (sym c.in-Some-line_behind_feed.ensures ∙ (c.deref.ensures ∙ kept))) in
    on-pushed c.push_str.result (string_bytes c.push_str.new.self) (out ++ line) out (out ++ shown) same c.push_str.ensures.bytes
