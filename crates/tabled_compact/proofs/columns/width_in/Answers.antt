use Rattle.std.proofs.Common.{arith, ◌≡◌, ◌∙◌, [], ap, map, sym}
use Rattle.std.proofs.lemmas.Grind.{common_steps}
use Rattle.grid_records_measure.specs.TextLines.{text_width}
use Rattle.grid_records_traits.proofs.TextAnswers.{width_of_text}
use Rattle.tabled_compact.specs.Columns.{text_in_column}
use Rattle.tabled_compact.proofs.columns.width_in.Goals as goal

pub returns-in-Some : goal.returns-in-Some
returns-in-Some g c =
    let same : g.C.Cell.text c.in-Some.cell.now ≡ text_in_column (map g.C.Cell.text c.args.row.now) c.args.column = grind (arith, common_steps) in
    width_of_text (g.C.Cell.text c.in-Some.cell.now) c.width.result c.width.ensures ∙ ap text_width same

pub returns-in-None : goal.returns-in-None
returns-in-None g c =
    let none : text_in_column (map g.C.Cell.text c.args.row.now) c.args.column ≡ [] = grind (arith, common_steps) in
    c.get_text_width.ensures.text ∙ sym (ap text_width none)
