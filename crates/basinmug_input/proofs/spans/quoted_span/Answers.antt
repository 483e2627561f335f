-- After plain bytes, or clear ones, is a quote, or there is more.
use Rattle.std.proofs.Common.{◌∙◌, ap, arith, get_or}
use Rattle.std.proofs.lemmas.List.{take_rest}
use Rattle.std.specs.List.{prefix_len}
use Rattle.basinmug_input.specs.Parts.{is_no_quote, quote}
use Rattle.basinmug_input.proofs.PlainFields.{clear-all, clear-behind, field-printable, plain-is_clear, quote-stops, quoted-clear_goes_on, quoted-goes_on}
use Rattle.basinmug_input.proofs.spans.quoted_span.Goals as goal

pub returns-then-begins_quoted-clause-count : goal.returns-then-begins_quoted-clause-count
returns-then-begins_quoted-clause-count c =
    let found = c.plain_end-end.ensures in
    let on = quoted-goes_on c.args.bytes.now c.args.start c.plain_end-end.result found.within.0 found.within.1 found.plain in
    let none = quote-stops c.args.bytes.now c.plain_end-end.result (c.begins_quoted.ensures.0 c.if-begins_quoted.true) in
    omega (arith, on, none)

pub returns-then-begins_quoted-clause-printable : goal.returns-then-begins_quoted-clause-printable
returns-then-begins_quoted-clause-printable c = λ _.
    let found = c.plain_end-end.ensures in
    field-printable quote c.args.bytes.now c.args.start c.plain_end-end.result found.within.0 found.within.1 found.plain

pub returns-then-begins_quoted-clause-clear : goal.returns-then-begins_quoted-clause-clear
returns-then-begins_quoted-clause-clear c = λ _.
    let found = c.plain_end-end.ensures in
    clear-all quote c.args.bytes.now c.args.start c.plain_end-end.result found.within.0 found.within.1
    (λ k low high. plain-is_clear quote (get_or c.args.bytes.now k 0) (found.plain k low high))

pub returns-then-begins_quoted-2-clause-count : goal.returns-then-begins_quoted-2-clause-count
returns-then-begins_quoted-2-clause-count c =
    let before = c.plain_end-end.ensures in
    let here = c.clear_end-end.ensures in
    let clear = clear-behind quote c.args.bytes.now c.args.start c.plain_end-end.result c.clear_end-end.result before.plain here.clear in
    let on = quoted-clear_goes_on c.args.bytes.now c.args.start c.clear_end-end.result (omega (arith, before.within.0, here.within.0)) here.within.1 clear in
    let none = quote-stops c.args.bytes.now c.clear_end-end.result (c.begins_quoted-2.ensures.0 c.if-begins_quoted-2.true) in
    omega (arith, on, none)

pub returns-then-begins_quoted-2-clause-clear : goal.returns-then-begins_quoted-2-clause-clear
returns-then-begins_quoted-2-clause-clear c = λ _.
    let before = c.plain_end-end.ensures in
    let here = c.clear_end-end.ensures in
    let clear = clear-behind quote c.args.bytes.now c.args.start c.plain_end-end.result c.clear_end-end.result before.plain here.clear in
    clear-all quote c.args.bytes.now c.args.start c.clear_end-end.result (omega (arith, before.within.0, here.within.0)) here.within.1 clear

pub returns-clause-count : goal.returns-clause-count
returns-clause-count c =
    let before = c.plain_end-end.ensures in
    let here = c.clear_end-end.ensures in
    let clear = clear-behind quote c.args.bytes.now c.args.start c.plain_end-end.result c.clear_end-end.result before.plain here.clear in
    let on = quoted-clear_goes_on c.args.bytes.now c.args.start c.clear_end-end.result (omega (arith, before.within.0, here.within.0)) here.within.1 clear in
    let rest = c.unquoted_len.ensures.count ∙ ap (prefix_len is_no_quote) (take_rest c.args.bytes.now c.clear_end-end.result) in
    omega (arith, on, rest)
