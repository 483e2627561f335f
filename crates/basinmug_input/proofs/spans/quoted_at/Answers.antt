-- The field has what is between its quotes.
use Rattle.std.proofs.Common.{◌≡◌, ◌+◌, ◌-◌, ◌<◌, ◌≤◌, arith, drop, get_or, length, subst, take, true}
use Rattle.grid_records_measure.specs.Measures.{are_printable}
use Rattle.basinmug_input.specs.Parts.{IsFieldAt, are_clear, is_between_fields}
use Rattle.basinmug_input.proofs.PartedFields.{quote-boundaries, quoted-field, stops-at}
use Rattle.basinmug_input.proofs.spans.quoted_at.Goals as goal

pub returns-clause-is : goal.returns-clause-is
returns-clause-is c =
    let d = c.args.delimiter in
    let bytes = c.args.bytes.now in
    let start = c.args.start in
    let n = c.quoted_span-span.result.len in
    let closed = c.begins_quoted.ensures.0 c.if-not-begins_quoted.false in
    let short : n ≡ start + 1 + n - (start + 1) = omega arith in
    record {
      field = subst (λ k. IsFieldAt d bytes start (start + 1 + n + 1) (take k (drop (start + 1) bytes))) short
          (quoted-field d bytes start n c.quoted_span-span.ensures.count c.requires.quote closed c.requires.parts (stops-at d bytes (start + 1 + n + 1) (c.ends_field.ensures c.if-not-ends_field.false)));
      upward = omega arith;
      within = (let below = closed.0 in omega (arith, below));
      boundaries = λ utf8 _. ((quote-boundaries bytes start c.requires.quote utf8).1, (quote-boundaries bytes (start + 1 + n) closed utf8).0);
    }

pub returns-clause-printable : goal.returns-clause-printable
returns-clause-printable c = λ is.
    let bytes = c.args.bytes.now in
    let start = c.args.start in
    let n = c.quoted_span-span.result.len in
    let short : n ≡ start + 1 + n - (start + 1) = omega arith in
    subst (λ k. are_printable (take k (drop (start + 1) bytes)) ≡ true) short (c.quoted_span-span.ensures.printable is)

pub returns-clause-clear : goal.returns-clause-clear
returns-clause-clear c = λ is.
    let bytes = c.args.bytes.now in
    let start = c.args.start in
    let n = c.quoted_span-span.result.len in
    let short : n ≡ start + 1 + n - (start + 1) = omega arith in
    subst (λ k. are_clear (take k (drop (start + 1) bytes)) ≡ true) short (c.quoted_span-span.ensures.clear is)
