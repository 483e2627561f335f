-- After plain bytes, and clear ones behind them, the field ends, or has more.
use Rattle.std.proofs.Common.{◌∙◌, ap, arith}
use Rattle.std.proofs.lemmas.List.{take_rest}
use Rattle.std.specs.List.{prefix_len}
use Rattle.basinmug_input.specs.Parts.{is_of_field}
use Rattle.basinmug_input.proofs.PlainFields.{clear-all, clear-behind, clear-goes_on}
use Rattle.basinmug_input.proofs.spans.span_at.Goals as goal

pub returns-then-ends_field-clause-count : goal.returns-then-ends_field-clause-count
returns-then-ends_field-clause-count c =
    let before = c.requires in
    let after = before.after in
    let here = c.clear_end-end.ensures in
    let clear = clear-behind c.args.delimiter c.args.bytes.now c.args.start c.args.plain c.clear_end-end.result before.all here.clear in
    let on = clear-goes_on c.args.delimiter c.args.bytes.now c.args.start c.clear_end-end.result (omega (arith, after, here.within.0)) here.within.1 clear in
    let none = c.ends_field.ensures c.if-ends_field.true in
    omega (arith, on, none)

pub returns-then-ends_field-clause-clear : goal.returns-then-ends_field-clause-clear
returns-then-ends_field-clause-clear c = λ _.
    let before = c.requires in
    let after = before.after in
    let here = c.clear_end-end.ensures in
    let clear = clear-behind c.args.delimiter c.args.bytes.now c.args.start c.args.plain c.clear_end-end.result before.all here.clear in
    clear-all c.args.delimiter c.args.bytes.now c.args.start c.clear_end-end.result (omega (arith, after, here.within.0)) here.within.1 clear

pub returns-clause-count : goal.returns-clause-count
returns-clause-count c =
    let before = c.requires in
    let after = before.after in
    let here = c.clear_end-end.ensures in
    let clear = clear-behind c.args.delimiter c.args.bytes.now c.args.start c.args.plain c.clear_end-end.result before.all here.clear in
    let on = clear-goes_on c.args.delimiter c.args.bytes.now c.args.start c.clear_end-end.result (omega (arith, after, here.within.0)) here.within.1 clear in
    let rest = c.field_len.ensures.count ∙ ap (prefix_len (is_of_field c.args.delimiter)) (take_rest c.args.bytes.now c.clear_end-end.result) in
    omega (arith, on, rest)
