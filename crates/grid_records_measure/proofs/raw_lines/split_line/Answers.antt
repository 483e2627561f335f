-- The line is before the first line feed, and the rest after it.
use Rattle.std.proofs.Common.{◌≡◌, ◌<◌, ◌-◌, ◌==◌, ◌∙◌, true, false, length, take, ap, sym, subst, arith, length-append, length-drop}
use Rattle.std.specs.Str.{IsCharBoundary}
use Rattle.std.proofs.lemmas.Bool.Decides.{nat_tests}
use Rattle.std.proofs.lemmas.Str.{IsCharBoundary-at_seam, IsCharBoundary-after_ascii}
use Rattle.grid_records_measure.proofs.RawLines.{front-is, line-last, line-more, whole-last, whole-more}
use Rattle.grid_records_measure.proofs.raw_lines.split_line.Goals as goal

pub overflow_sub-text : goal.overflow_sub-text
overflow_sub-text c =
    let rest = c.from_line_feed-rest.result.now in
    let front = front-is c.args.text.now rest c.from_line_feed-rest.ensures in
    let len = ap length front.1 in
    omega (arith, len, length-append front.0 rest)

pub range-line-requires-clause-end_boundary : goal.range-line-requires-clause-end_boundary
range-line-requires-clause-end_boundary c =
    let text = c.args.text.now in
    let rest = c.from_line_feed-rest.result.now in
    let front = front-is text rest c.from_line_feed-rest.ensures in
    let all = ap length front.1 in
    let len : length front.0 ≡ length text - length rest = omega (arith, all, length-append front.0 rest) in
    subst (λ n. IsCharBoundary text n) len (IsCharBoundary-at_seam text front.0 rest front.1 c.from_line_feed-rest.utf8)

pub returns-then-is_empty-clause-parted : goal.returns-then-is_empty-clause-parted
returns-then-is_empty-clause-parted c =
    let text = c.args.text.now in
    let rest = c.from_line_feed-rest.result.now in
    let test : (length rest == 0) ≡ true = sym c.is_empty.ensures ∙ c.if-is_empty.true in
    let empty : length rest ≡ 0 = grind (arith, nat_tests) in
    let from_start : length text - length rest - 0 ≡ length text - length rest = omega arith in
    whole-last text rest c.from_line_feed-rest.ensures c.range-line.result.now (c.range-line.ensures.value ∙ ap (λ n. take n text) from_start) empty

pub returns-then-is_empty-clause-lines : goal.returns-then-is_empty-clause-lines
returns-then-is_empty-clause-lines c =
    let text = c.args.text.now in
    let rest = c.from_line_feed-rest.result.now in
    let test : (length rest == 0) ≡ true = sym c.is_empty.ensures ∙ c.if-is_empty.true in
    let empty : length rest ≡ 0 = grind (arith, nat_tests) in
    let from_start : length text - length rest - 0 ≡ length text - length rest = omega arith in
    line-last text rest c.from_line_feed-rest.ensures c.range-line.result.now (c.range-line.ensures.value ∙ ap (λ n. take n text) from_start) empty

pub range_from-requires : goal.range_from-requires
range_from-requires c = λ _.
    let rest = c.from_line_feed-rest.result.now in
    let test : (length rest == 0) ≡ false = sym c.is_empty.ensures ∙ c.if-is_empty.false in
    let some : 0 < length rest = grind (arith, nat_tests) in
    let at = c.from_line_feed-rest.ensures.1.at some in
    IsCharBoundary-after_ascii rest 0 c.from_line_feed-rest.utf8 some (omega (arith, at))

pub returns-clause-parted : goal.returns-clause-parted
returns-clause-parted c =
    let text = c.args.text.now in
    let rest = c.from_line_feed-rest.result.now in
    let test : (length rest == 0) ≡ false = sym c.is_empty.ensures ∙ c.if-is_empty.false in
    let some : 0 < length rest = grind (arith, nat_tests) in
    let from_start : length text - length rest - 0 ≡ length text - length rest = omega arith in
    whole-more text rest c.from_line_feed-rest.ensures c.range-line.result.now c.range_from.result.now (c.range-line.ensures.value ∙ ap (λ n. take n text) from_start) c.range_from.ensures.value some

pub returns-clause-lines : goal.returns-clause-lines
returns-clause-lines c =
    let text = c.args.text.now in
    let rest = c.from_line_feed-rest.result.now in
    let test : (length rest == 0) ≡ false = sym c.is_empty.ensures ∙ c.if-is_empty.false in
    let some : 0 < length rest = grind (arith, nat_tests) in
    let from_start : length text - length rest - 0 ≡ length text - length rest = omega arith in
    line-more text rest c.from_line_feed-rest.ensures c.range-line.result.now c.range_from.result.now (c.range-line.ensures.value ∙ ap (λ n. take n text) from_start) c.range_from.ensures.value some

pub returns-clause-shorter : goal.returns-clause-shorter
returns-clause-shorter c =
    let text = c.args.text.now in
    let rest = c.from_line_feed-rest.result.now in
    let front = front-is text rest c.from_line_feed-rest.ensures in
    let all = ap length front.1 in
    let test : (length rest == 0) ≡ false = sym c.is_empty.ensures ∙ c.if-is_empty.false in
    let some : 0 < length rest = grind (arith, nat_tests) in
    let left = ap length c.range_from.ensures.value in
    omega (arith, all, length-append front.0 rest, some, left, length-drop 1 rest)
