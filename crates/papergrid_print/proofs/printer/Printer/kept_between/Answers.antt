use Rattle.std.proofs.Common.{◌++◌, ◌∙◌, ap, arith, subst}
use Rattle.papergrid_picture.specs.Frame.{Boundary}
use Rattle.papergrid_print.specs.FlatSheets.{IsBetweenOrNone}
use Rattle.papergrid_print.specs.Sheets.{sheet_line}
use Rattle.papergrid_print.specs.Printed.{table_sheet}
use Rattle.papergrid_print.proofs.Standing.{feed-same}
use Rattle.papergrid_print.proofs.printer.Printer.kept_between.Goals as goal

pub returns-in-Some : goal.returns-in-Some
returns-in-Some g c =
    let S = table_sheet c.args.self.now in
    let kept = subst (λ made. IsBetweenOrNone S made) c.in-Some.is c.requires c.args.i c.args.y (omega arith) (omega arith) in
    c.as_str.ensures.value ∙ (kept ∙ ap (λ l. l ++ sheet_line S (Boundary c.args.i) c.args.y) (feed-same c.args.y (omega arith)))
