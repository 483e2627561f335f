-- What holds of the lines that are kept holds of their copy.
use Rattle.std.proofs.Common.{List, string_bytes, subst, sym, ℕ}
use Rattle.grid_records.specs.RecordRows.Measured.{AreKept, AreLinesKept}
use Rattle.grid_records.proofs.rows.records.vec_records.text.Text.lines_again.Goals as goal

pub returns-in_ok-new-in-Some : goal.returns-in_ok-new-in-Some
returns-in_ok-new-in-Some c =
    let text = string_bytes c.self.inside.text in
    let kept : AreLinesKept text c.in-Some.lines.value = subst (AreKept text) c.in-Some.is c.self.invariant.0 in
    let lent : AreLinesKept text c.deref.result.now = subst (AreLinesKept text) (sym c.deref.ensures) kept in
    let again : AreLinesKept text c.in_ok-again-in-Some.field-0 = c.in_ok-again-in-Some.ensures text lent in
    let boxed : AreLinesKept text c.in_ok-new-in-Some.field-0.value = subst (AreLinesKept text) (sym c.in_ok-new-in-Some.ensures.ok) again in
    subst (λ (bytes : List ℕ). AreLinesKept bytes c.in_ok-new-in-Some.field-0.value) c.self.view_is boxed
