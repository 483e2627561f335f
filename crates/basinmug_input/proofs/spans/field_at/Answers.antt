-- A field outside quotes begins with none.
use Rattle.std.proofs.Common.{◌≡◌, ◌+◌, ◌-◌, ◌<◌, arith, drop, get_or, length, subst, take, true}
use Rattle.std.proofs.lemmas.Bool.{ne_eqb}
use Rattle.grid_records_measure.specs.Measures.{are_printable}
use Rattle.basinmug_input.specs.Parts.{IsFieldAt, are_clear, quote}
use Rattle.basinmug_input.proofs.PartedFields.{boundary-before, open-field}
use Rattle.basinmug_input.proofs.spans.field_at.Goals as goal

pub returns-clause-is : goal.returns-clause-is
returns-clause-is c =
    let d = c.args.delimiter in
    let bytes = c.args.bytes.now in
    let start = c.args.start in
    let n = c.span_at-span.result.len in
    let short : n ≡ start + n - start = omega arith in
    let field = open-field d bytes start n c.span_at-span.ensures.count c.span_at-span.ensures.bound
    (λ below. ne_eqb (get_or bytes start 0) quote (λ same. c.requires.outside (below, same))) in
    record {
      field = subst (λ k. IsFieldAt d bytes start (start + n) (take k (drop start bytes))) short field;
      upward = omega arith;
      within = c.span_at-span.ensures.bound;
      boundaries = λ _ cut. (cut, boundary-before d bytes (start + n) c.requires.parts.ascii c.span_at-span.ensures.bound field.stops);
    }

pub returns-clause-printable : goal.returns-clause-printable
returns-clause-printable c = λ is.
    let bytes = c.args.bytes.now in
    let start = c.args.start in
    let n = c.span_at-span.result.len in
    let short : n ≡ start + n - start = omega arith in
    subst (λ k. are_printable (take k (drop start bytes)) ≡ true) short (c.span_at-span.ensures.printable is)

pub returns-clause-clear : goal.returns-clause-clear
returns-clause-clear c = λ is.
    let bytes = c.args.bytes.now in
    let start = c.args.start in
    let n = c.span_at-span.result.len in
    let short : n ≡ start + n - start = omega arith in
    subst (λ k. are_clear (take k (drop start bytes)) ≡ true) short (c.span_at-span.ensures.clear is)
