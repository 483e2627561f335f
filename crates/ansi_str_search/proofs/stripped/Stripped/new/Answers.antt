-- Nothing is passed, and a text can be cut at its start.
use Rattle.std.proofs.Common.{◌≡◌, ◌-◌, ap, subst, length, arith}
use Rattle.std.specs.Cow.{cow_str_bytes}
use Rattle.std.specs.Str.{IsUtf8, IsCharBoundary}
use Rattle.std.proofs.lemmas.Str.{IsCharBoundary-start}
use Rattle.ansi_str_search.proofs.stripped.Stripped.new.Goals as goal

pub invariant_of-result : goal.invariant_of-result
invariant_of-result c =
    let text = cow_str_bytes c.args.text in
    let same : length c.as_str-left.result.now ≡ length text = ap length c.as_str-left.ensures.value in
    let start : 0 ≡ length text - length c.as_str-left.result.now = omega (arith, same) in
    (omega (arith, same), (subst (IsCharBoundary text) start (IsCharBoundary-start text (subst IsUtf8 c.as_str-left.ensures.value c.as_str-left.utf8)), tt))
