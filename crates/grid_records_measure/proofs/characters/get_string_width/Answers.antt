-- Printable ASCII takes a column a byte.
use Rattle.std.proofs.Common.{◌≡◌, ◌∙◌, [], ap, sym, ◌+◌, length, zero-add}
use Rattle.std.specs.Prelude.{chars}
use Rattle.std.proofs.lemmas.Bool.{eqb-true}
use Rattle.std.proofs.lemmas.List.{nil_from_length}
use Rattle.grid_records_measure.specs.Measures.{measure}
use Rattle.grid_records_measure.proofs.AddingColumns.{measure-nothing}
use Rattle.grid_records_measure.proofs.PrintableWidth.{measure-printable}
use Rattle.grid_records_measure.proofs.characters.get_string_width.Goals as goal

pub returns-then-is_printable : goal.returns-then-is_printable
returns-then-is_printable c = sym (measure-printable c.args.text.now (sym c.is_printable.ensures ∙ c.if-is_printable.true))

pub returns-then-is_empty : goal.returns-then-is_empty
returns-then-is_empty c =
    let front = c.without_simple_end-behind.result.0.now in
    let none : front ≡ [] = nil_from_length front (eqb-true (length front) 0 (sym c.is_empty.ensures ∙ c.if-is_empty.true)) in
    let columns = c.without_simple_end-behind.result.1 in
    sym (c.without_simple_end-behind.ensures.adds ∙ ap (λ bytes. measure (chars bytes) + columns) none ∙ ap (λ n. n + columns) measure-nothing ∙ zero-add columns)
