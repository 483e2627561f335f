-- The cell shows the bytes of the span, which begin outside quotes.
use Rattle.std.proofs.Common.{◌∙◌, List, ℕ, ap, subst, sym}
use Rattle.std.specs.Prelude.{slice_range}
use Rattle.grid_records_measure.specs.Measures.{are_printable}
use Rattle.basinmug_input.specs.Parts.{IsSpanAt, are_clear}
use Rattle.basinmug_input.proofs.ShownCells.{span-next}
use Rattle.basinmug_input.proofs.parts.push_other.Goals as goal

pub push_span-requires-clause-ascending : goal.push_span-requires-clause-ascending
push_span-requires-clause-ascending c = c.field_at-span.ensures.is.upward

pub push_span-requires-clause-from : goal.push_span-requires-clause-from
push_span-requires-clause-from c =
    let is = subst (λ (of : List ℕ). IsSpanAt c.args.delimiter of c.args.start c.field_at-span.result) c.as_bytes-bytes.ensures.value c.field_at-span.ensures.is in
    (is.boundaries c.utf8.text c.requires.boundary).0

pub push_span-requires-clause-to : goal.push_span-requires-clause-to
push_span-requires-clause-to c =
    let is = subst (λ (of : List ℕ). IsSpanAt c.args.delimiter of c.args.start c.field_at-span.result) c.as_bytes-bytes.ensures.value c.field_at-span.ensures.is in
    (is.boundaries c.utf8.text c.requires.boundary).1

pub push_span-requires-clause-printable : goal.push_span-requires-clause-printable
push_span-requires-clause-printable c = λ is.
    let span = c.field_at-span.result in
    ap (λ (of : List ℕ). are_printable (slice_range of span.from span.to)) (sym c.as_bytes-bytes.ensures.value) ∙ c.field_at-span.ensures.printable is

pub push_span-requires-clause-clear : goal.push_span-requires-clause-clear
push_span-requires-clause-clear c = λ is.
    let span = c.field_at-span.result in
    ap (λ (of : List ℕ). are_clear (slice_range of span.from span.to)) (sym c.as_bytes-bytes.ensures.value) ∙ c.field_at-span.ensures.clear is

pub returns-in-Ok : goal.returns-in-Ok
returns-in-Ok c =
    let is = subst (λ (of : List ℕ). IsSpanAt c.args.delimiter of c.args.start c.field_at-span.result) c.as_bytes-bytes.ensures.value c.field_at-span.ensures.is in
    span-next c.args.escapes c.args.delimiter c.args.text.now c.as_bytes-bytes.result.now c.args.start c.field_at-span.result c.new.result c.args.rows.now c.push_span.new.rows
    c.requires.parts.ascii c.as_bytes-bytes.ensures.value is c.new.ensures.at c.new.ensures.parted (rw c.in-Ok.is at c.in_ok-push_span.ensures)
