-- The text can be cut where its end begins.
use Rattle.std.proofs.Common.{◌≡◌, ◌-◌, ◌++◌, length, ap, subst, arith, length-append}
use Rattle.std.specs.Str.{IsCharBoundary}
use Rattle.std.proofs.lemmas.Str.{IsCharBoundary-at_seam}
use Rattle.ansi_str_search.proofs.places.front.Goals as goal

pub range-requires-clause-end_boundary : goal.range-requires-clause-end_boundary
range-requires-clause-end_boundary c =
    let text = c.args.text.now in
    let before = c.requires.0 in
    let len : length text ≡ length (before ++ c.args.end.now) = ap length c.requires.1 in
    let same : length before ≡ length text - length c.args.end.now = omega (arith, len, length-append before c.args.end.now) in
    subst (IsCharBoundary text) same (IsCharBoundary-at_seam text before c.args.end.now c.requires.1 c.utf8.end)
