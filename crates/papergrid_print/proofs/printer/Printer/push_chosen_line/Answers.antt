use Rattle.std.proofs.Common.{◌≡◌, ◌++◌, ◌∷◌, ◌∙◌, [], ap, append-nil, append_assoc, false, refl, string_bytes, sym, true}
use Rattle.grid_records_measure.specs.TextLines.{line_feed}
use Rattle.papergrid_picture.specs.Frame.{line_kind}
use Rattle.papergrid_print.specs.Chosen.{chosen_line, kind_of_line}
use Rattle.papergrid_print.specs.Sheets.{row_tracks, shown_line}
use Rattle.papergrid_print.specs.Printed.{table_sheet}
use Rattle.papergrid_print.proofs.Choosing.{line-chosen, line-unchosen}
use Rattle.papergrid_print.proofs.Standing.{kind-at-hand}
use Rattle.papergrid_print.proofs.Writes.{on-pushed}
use Rattle.papergrid_print.proofs.printer.Printer.push_chosen_line.Goals as goal

pub returns-then-not-is_chosen : goal.returns-then-not-is_chosen
returns-then-not-is_chosen g c =
    let S = table_sheet c.args.self.now in
    let chooses = g.K.LineChoice.chooses c.args.choice.now in
    let kind = line_kind (row_tracks S) c.args.y in
    let out = string_bytes c.args.chosen.now in
    let told = c.kind.ensures ∙ kind-at-hand S c.args.shared.now.flat c.args.place.now c.args.y c.requires.at_hand in
    let unchosen : chooses (kind_of_line kind) ≡ false = sym (ap chooses told) ∙ (sym c.is_chosen.ensures ∙ c.if-not-is_chosen.true) in
    sym (append-nil out) ∙ ap (λ l. out ++ l) (sym (line-unchosen S chooses kind c.args.y refl unchosen))

pub returns : goal.returns
unfolding lib.Utf8.encode
returns g c =
    let S = table_sheet c.args.self.now in
    let chooses = g.K.LineChoice.chooses c.args.choice.now in
    let kind = line_kind (row_tracks S) c.args.y in
    let out = string_bytes c.args.chosen.now in
    let shown = shown_line S c.args.y in
    let told = c.kind.ensures ∙ kind-at-hand S c.args.shared.now.flat c.args.place.now c.args.y c.requires.at_hand in
    let chosen : chooses (kind_of_line kind) ≡ true = sym (ap chooses told) ∙ (sym c.is_chosen.ensures ∙ c.if-not-is_chosen.false) in
    let line = line-chosen S chooses kind c.args.y shown refl chosen refl in
    on-pushed c.push.result (string_bytes c.push.new.self) (string_bytes c.push_line.new.out ++ line_feed ∷ []) (string_bytes c.push_line.new.out) (out ++ chosen_line S chooses c.args.y)
    (ap (λ l. l ++ line_feed ∷ []) c.in_ok-push_line.ensures ∙ (append_assoc out shown (line_feed ∷ []) ∙ ap (λ l. out ++ l) (sym line))) c.push.ensures.bytes
