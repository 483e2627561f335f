-- No quote is before the place that is found; where none is found, none is there.
use Rattle.std.proofs.Common.{◌≡◌, Bool, true, false, arith, get_or, length, refl, sym}
use Rattle.std.proofs.lemmas.List.Sums.{prefix_len_is}
use Rattle.std.specs.Prelude.{◌==◌, not}
use Rattle.basinmug_input.specs.Parts.{is_no_quote, quote}
use Rattle.basinmug_input.proofs.spans.unquoted_len.Goals as goal

none-of : (p : Bool) → ¬ (p ≡ true) → not p ≡ true
none-of true none = absurd (none refl)
none-of false none = refl

one-of : (p : Bool) → p ≡ true → not p ≡ false
one-of true is = refl
one-of false is = sym is

pub returns-in-Some-clause-count : goal.returns-in-Some-clause-count
returns-in-Some-clause-count c =
    let text = c.args.text.now in
    let found = c.in-Some.ensures in
    sym (prefix_len_is is_no_quote text c.in-Some.len 0 (omega (arith, found.0.high))
    (λ k below. none-of (get_or text k 0 == quote) (found.0.before k (omega arith) below))
    (λ inside. one-of (get_or text c.in-Some.len 0 == quote) found.1))

pub returns-in-None-clause-count : goal.returns-in-None-clause-count
returns-in-None-clause-count c =
    let text = c.args.text.now in
    sym (prefix_len_is is_no_quote text (length text) 0 (omega arith)
    (λ k below. none-of (get_or text k 0 == quote) (c.in-None.ensures k (omega arith) below))
    (λ inside. absurd (omega (arith, inside))))
