-- Printable ASCII is sound, and is shown as it is.
use Rattle.std.proofs.Common.{◌≡◌, ◌∙◌, ◌+◌, ◌-◌, ◌<◌, ◌≤◌, List, ℕ, take, drop, get_or, length, sym, ap, subst, arith}
use Rattle.std.proofs.lemmas.Bool.{false≢true, ne_eqb}
use Rattle.std.specs.List.{prefix_len}
use Rattle.std.specs.Prelude.{slice_range}
use Rattle.std.specs.Str.{IsCharBoundary}
use Rattle.basinmug_cells.specs.Held.{with_cell}
use Rattle.grid_records_measure.specs.Measures.{are_printable}
use Rattle.basinmug_input.specs.Parts.{BeginsPlain, IsFieldAt, IsQuoteAt, is_of_field, quote}
use Rattle.basinmug_input.proofs.PartedFields.{boundary-before, open-field, stops-at}
use Rattle.basinmug_input.proofs.PlainFields.{field-goes_on, field-printable}
use Rattle.basinmug_input.proofs.ShownCells.{field-next, printable-shown}
use Rattle.basinmug_input.proofs.parts.push_next.Goals as goal

-- the field is all of the plain bytes
plain-field : (d : ℕ) (bytes : List ℕ) (start plain : ℕ) → BeginsPlain d bytes start plain → prefix_len (is_of_field d) (drop plain bytes) ≡ 0 → ¬ (IsQuoteAt bytes start)
    → IsFieldAt d bytes start plain (take (plain - start) (drop start bytes))
plain-field d bytes start plain is none outside =
    let low = is.after in
    let high = is.within in
    let on = field-goes_on d bytes start plain low high is.all in
    let n = plain - start in
    let counted : n ≡ prefix_len (is_of_field d) (drop start bytes) = omega (arith, on, none) in
    let size : start + n ≡ plain = omega (arith, low) in
    subst (λ k. IsFieldAt d bytes start k (take n (drop start bytes))) size
    (open-field d bytes start n counted (omega (arith, size, high)) (λ below. ne_eqb (get_or bytes start 0) quote (λ same. outside (below, same))))

-- its end is between characters
plain-boundary : (d : ℕ) (text bytes : List ℕ) (plain : ℕ) → d < 128 → bytes ≡ text → plain ≤ length bytes → prefix_len (is_of_field d) (drop plain bytes) ≡ 0 → IsCharBoundary text plain
plain-boundary d text bytes plain low same within none =
    subst (λ (of : List ℕ). IsCharBoundary of plain) same (boundary-before d bytes plain low within (stops-at d bytes plain none))

pub push_quoted-requires-clause-quote : goal.push_quoted-requires-clause-quote
push_quoted-requires-clause-quote c = subst (λ (of : List ℕ). IsQuoteAt of c.args.start) c.as_bytes-bytes.ensures.value (c.begins_quoted.ensures.0 c.if-begins_quoted.true)

pub push_printable-requires-clause-start : goal.push_printable-requires-clause-start
push_printable-requires-clause-start c = subst (λ (of : List ℕ). IsCharBoundary of c.args.start) (sym c.requires.text) c.requires.boundary

pub push_printable-requires-clause-end : goal.push_printable-requires-clause-end
push_printable-requires-clause-end c =
    let plain = c.plain_end-plain.result in
    subst (λ (of : List ℕ). IsCharBoundary of plain) (sym c.requires.text)
    (plain-boundary c.args.delimiter c.args.text.now c.as_bytes-bytes.result.now plain c.requires.parts.ascii c.as_bytes-bytes.ensures.value c.plain_end-plain.ensures.within.1 (c.ends_field.ensures c.if-ends_field.true))

pub push_printable-requires-clause-printable : goal.push_printable-requires-clause-printable
push_printable-requires-clause-printable c =
    let start = c.args.start in
    let plain = c.plain_end-plain.result in
    let found = c.plain_end-plain.ensures in
    ap (λ (of : List ℕ). are_printable (slice_range of start plain)) (c.requires.text ∙ sym c.as_bytes-bytes.ensures.value)
    ∙ field-printable c.args.delimiter c.as_bytes-bytes.result.now start plain found.within.0 found.within.1 found.plain

pub returns-then-ends_field : goal.returns-then-ends_field
returns-then-ends_field c =
    let d = c.args.delimiter in
    let text = c.args.text.now in
    let start = c.args.start in
    let plain = c.plain_end-plain.result in
    let bytes = c.as_bytes-bytes.result.now in
    let same = c.as_bytes-bytes.ensures.value in
    let found = c.plain_end-plain.ensures in
    let none = c.ends_field.ensures c.if-ends_field.true in
    let begins : BeginsPlain d bytes start plain = record { after = found.within.0; within = found.within.1; all = found.plain } in
    let outside : ¬ (IsQuoteAt bytes start) = λ is. false≢true (sym c.if-begins_quoted.false ∙ c.begins_quoted.ensures.1 is) in
    let is = subst (λ (of : List ℕ). IsFieldAt d of start plain (take (plain - start) (drop start of))) same (plain-field d bytes start plain begins none outside) in
    let all = ap (λ (of : List ℕ). are_printable (slice_range of start plain)) (sym same) ∙ field-printable d bytes start plain found.within.0 found.within.1 found.plain in
    let more = c.in_ok-push_printable.ensures.more ∙ ap (λ (of : List ℕ). with_cell c.args.rows.now (slice_range of start plain)) c.requires.text in
    field-next c.args.escapes d text bytes start plain c.new-end.result (slice_range text start plain) c.args.rows.now c.push_printable.new.self c.requires.parts.ascii same is
    c.new-end.ensures.at c.new-end.ensures.parted (printable-shown c.args.escapes (slice_range text start plain) c.args.rows.now c.push_printable.new.self all more)

pub push_other-requires-clause-outside : goal.push_other-requires-clause-outside
push_other-requires-clause-outside c =
    subst (λ (of : List ℕ). ¬ (IsQuoteAt of c.args.start)) c.as_bytes-bytes.ensures.value (λ is. false≢true (sym c.if-begins_quoted.false ∙ c.begins_quoted.ensures.1 is))

pub push_other-requires-clause-plain : goal.push_other-requires-clause-plain
push_other-requires-clause-plain c =
    let found = c.plain_end-plain.ensures in
    subst (λ (of : List ℕ). BeginsPlain c.args.delimiter of c.args.start c.plain_end-plain.result) c.as_bytes-bytes.ensures.value
    (record { after = found.within.0; within = found.within.1; all = found.plain })
