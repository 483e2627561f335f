-- A number has no white space around it.
use Rattle.std.proofs.Common.{◌≡◌, ◌∙◌, ap, sym, true}
use Rattle.grid_records_measure.specs.TextLines.{text_width}
use Rattle.basinmug_columns.specs.Numbers.Numbers.{is_number}
use Rattle.basinmug_columns.proofs.NumbersLemmas.Itself.{number-unpadded}
use Rattle.basinmug_columns.proofs.needs.unpadded_width.Goals as goal

pub returns-then-is_number : goal.returns-then-is_number
returns-then-is_number g c =
    let text = g.C.Cell.text c.args.cell.now in
    let is : is_number text ≡ true = ap is_number (sym (c.as_bytes.ensures.value ∙ c.text-text.ensures)) ∙ sym c.is_number.ensures ∙ c.if-is_number.true in
    c.cell_width.ensures ∙ ap text_width (sym (number-unpadded text is))
