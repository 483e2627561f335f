-- A character that fits comes off the text; one that does not ends the walk.
use Rattle.std.proofs.Common.{rules, ◌≤◌, ◌+◌, ◌∙◌, length, encode_utf8_all, ap, sym, arith}
use Rattle.std.specs.Str.Iter.{chars_rest}
use Rattle.std.proofs.lemmas.Str.{IsUtf8-past_char}
use Rattle.grid_records_measure.proofs.Cuts.{takes, takes-len, refuses, ends, fitting_front-fits}
use Rattle.grid_records_measure.proofs.cut.fill.Goals as goal

pub returns-in_default-clause-len : goal.returns-in_default-clause-len
returns-in_default-clause-len c =
    let rest = chars_rest c.loop-c.c-iterator in
    let here = refuses c.args.width c.loop-c.used c.in-Some.c rest (chars_rest c.next.new.self) c.loop-c.invariant.text c.in-Some.ensures.steps.0 (sym c.columns_with.ensures.columns ∙ c.in_default.is) in
    let none = ap (λ cs. length (encode_utf8_all cs)) here.0 in
    omega (arith, none, c.loop-c.invariant.len)

pub returns-in_default-clause-columns : goal.returns-in_default-clause-columns
returns-in_default-clause-columns c =
    let rest = chars_rest c.loop-c.c-iterator in
    let here = refuses c.args.width c.loop-c.used c.in-Some.c rest (chars_rest c.next.new.self) c.loop-c.invariant.text c.in-Some.ensures.steps.0 (sym c.columns_with.ensures.columns ∙ c.in_default.is) in
    sym here.1 ∙ c.loop-c.invariant.columns

pub overflow_add-len : goal.overflow_add-len
overflow_add-len c =
    let text = c.args.text.now in
    let rest = chars_rest c.loop-c.c-iterator in
    let behind = chars_rest c.next.new.self in
    let taken = takes c.args.width c.loop-c.used c.in-Some.c c.in-Some-columns_with.columns rest behind c.loop-c.invariant.text c.in-Some.ensures.steps.0 (sym c.columns_with.ensures.columns ∙ c.in-Some-columns_with.is) in
    let sum = takes-len c.args.width c.loop-c.used c.in-Some.c c.in-Some-columns_with.columns rest behind taken in
    let all = fitting_front-fits c.args.width c.args.before text c.utf8.text in
    let fits : c.loop-c.len + c.len_utf8-len.result ≤ length text = omega (arith, sum, all, c.loop-c.invariant.len, c.len_utf8-len.ensures.len) in
    search (rules, fits)

pub loop-c-preserved : goal.loop-c-preserved
loop-c-preserved c =
    let rest = chars_rest c.loop-c.c-iterator in
    let behind = chars_rest c.next.new.self in
    let taken = takes c.args.width c.loop-c.used c.in-Some.c c.in-Some-columns_with.columns rest behind c.loop-c.invariant.text c.in-Some.ensures.steps.0 (sym c.columns_with.ensures.columns ∙ c.in-Some-columns_with.is) in
    let sum = takes-len c.args.width c.loop-c.used c.in-Some.c c.in-Some-columns_with.columns rest behind taken in
    record {
      goes = search rules;
      text = IsUtf8-past_char rest behind c.in-Some.c c.loop-c.invariant.text c.in-Some.ensures.steps.0;
      fits = c.in-Some-columns_with.ensures.fits;
      len = omega (arith, sum, c.loop-c.invariant.len, c.len_utf8-len.ensures.len);
      columns = sym taken.columns_same ∙ c.loop-c.invariant.columns;
    }

pub returns-clause-len : goal.returns-clause-len
returns-clause-len c =
    let here = ends c.args.width c.loop-c.used (chars_rest c.loop-c.c-iterator) c.in-None.ensures.steps.0.0 in
    let none = ap (λ cs. length (encode_utf8_all cs)) here.0 in
    omega (arith, none, c.loop-c.invariant.len)

pub returns-clause-columns : goal.returns-clause-columns
returns-clause-columns c =
    let here = ends c.args.width c.loop-c.used (chars_rest c.loop-c.c-iterator) c.in-None.ensures.steps.0.0 in
    sym here.1 ∙ c.loop-c.invariant.columns
