use Rattle.std.proofs.Common.{◌++◌, ◌∙◌, ap, string_bytes, append_assoc}
use Rattle.papergrid_print.specs.Sheets.{feed_before, shown_line}
use Rattle.papergrid_print.specs.Printed.{table_sheet}
use Rattle.papergrid_print.proofs.Standing.{boundary-drawn}
use Rattle.papergrid_print.proofs.Writes.{on-pushed, on-then}
use Rattle.papergrid_print.proofs.printer.Printer.push_fed_line.Goals as goal

pub returns-in-Some : goal.returns-in-Some
returns-in-Some g c =
    let S = table_sheet c.args.self.now in
    let out = string_bytes c.args.out.now in
    let text = c.in-Some.text.now in
    let is = boundary-drawn S c.args.shared.now.flat c.args.place.now c.args.y c.in-Boundary.i (feed_before c.args.y) text c.in-Boundary.is c.requires.at_hand c.in-Some.ensures in
    on-pushed c.push_str.result (string_bytes c.push_str.new.self) (out ++ text) out (out ++ (feed_before c.args.y ++ shown_line S c.args.y)) (ap (λ l. out ++ l) is) c.push_str.ensures.bytes

pub returns : goal.returns
returns g c =
    let S = table_sheet c.args.self.now in
    let out = string_bytes c.args.out.now in
    let shown = shown_line S c.args.y in
    on-then c.push_line.result (λ is. is ∙ (ap (λ l. l ++ shown) c.in_ok-push_feed.ensures ∙ append_assoc out (feed_before c.args.y) shown)) c.push_line.ensures
