-- Before the first byte that separates fields all are of the field; where there is none, all are.
use Rattle.std.proofs.Common.{◌≡◌, Bool, true, false, arith, get_or, length, refl, sym}
use Rattle.std.proofs.lemmas.List.Sums.{prefix_len_is}
use Rattle.std.specs.Prelude.{◌==◌, ◌||◌, not}
use Rattle.basinmug_input.specs.Parts.{is_of_field}
use Rattle.basinmug_input.proofs.spans.field_len.Goals as goal

none-of : (p q r : Bool) → ¬ (((p || q) || r) ≡ true) → not (p || (q || r)) ≡ true
none-of true q r none = absurd (none refl)
none-of false true r none = absurd (none refl)
none-of false false true none = absurd (none refl)
none-of false false false none = refl

one-of : (p q r : Bool) → ((p || q) || r) ≡ true → not (p || (q || r)) ≡ false
one-of true q r is = refl
one-of false true r is = refl
one-of false false true is = refl
one-of false false false is = sym is

pub returns-in-Some-clause-count : goal.returns-in-Some-clause-count
returns-in-Some-clause-count c =
    let text = c.args.text.now in
    let d = c.args.delimiter in
    let found = c.in-Some.ensures in
    sym (prefix_len_is (is_of_field d) text c.in-Some.len 0 (omega (arith, found.0.high))
    (λ k below. none-of (get_or text k 0 == d) (get_or text k 0 == 13) (get_or text k 0 == 10) (found.0.before k (omega arith) below))
    (λ inside. one-of (get_or text c.in-Some.len 0 == d) (get_or text c.in-Some.len 0 == 13) (get_or text c.in-Some.len 0 == 10) found.1))

pub returns-in-None-clause-count : goal.returns-in-None-clause-count
returns-in-None-clause-count c =
    let text = c.args.text.now in
    let d = c.args.delimiter in
    sym (prefix_len_is (is_of_field d) text (length text) 0 (omega arith)
    (λ k below. none-of (get_or text k 0 == d) (get_or text k 0 == 13) (get_or text k 0 == 10) (c.in-None.ensures k (omega arith) below))
    (λ inside. absurd (omega (arith, inside))))
