-- Printable ASCII is its only line, and each byte takes a column.
use Rattle.std.proofs.Common.{rules, ◌≡◌, ◌∙◌, ap, length, string_bytes, subst, sym, true}
use Rattle.grid_records_measure.specs.Measures.{are_printable}
use Rattle.grid_records_traits.specs.Cells.{HasWidth}
use Rattle.grid_records.proofs.RowsLemmas.PlainText.{printable-lines, printable-width}
use Rattle.grid_records.proofs.rows.records.vec_records.text.Text.new.Goals as goal

pub invariant_of-result : goal.invariant_of-result
invariant_of-result c =
    let text = string_bytes c.args.text in
    let all : are_printable text ≡ true = ap are_printable (sym c.deref.ensures) ∙ sym c.is_printable.ensures ∙ c.if-is_printable.true in
    let long : c.len-width.result ≡ length text = search rules in
    (printable-lines text all, subst (HasWidth text) (sym long) (printable-width text all))
