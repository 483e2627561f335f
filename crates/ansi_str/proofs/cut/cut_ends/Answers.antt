-- The bounds are good in the text's own pieces, and a missing end is past them.
use Rattle.std.proofs.Common.{rules, ◌≤◌, ◌∙◌, ap, ℕ, List, length, sym, subst}
use Rattle.ansi_scan.specs.Pieces.{pieces}
use Rattle.ansi_scan.proofs.Existence.{ArePiecesOf-pieces}
use Rattle.ansi_str.specs.StyledText.{strip}
use Rattle.ansi_str.specs.Parts.{from_place, IsGoodBound}
use Rattle.ansi_str.proofs.CutSteps.{AreCutEnds-found, cut-bounds}
use Rattle.ansi_str.proofs.cut.cut_ends.Goals as goal

pub after-first-requires : goal.after-first-requires
after-first-requires c =
    let text = c.args.text.now in
    subst (λ (t : List ℕ). IsGoodBound (strip (pieces t)) c.args.start) (sym c.start_of.ensures.rest) (c.requires (pieces text) (ArePiecesOf-pieces text)).start_good

pub overflow_sub-end : goal.overflow_sub-end
overflow_sub-end c =
    let text = c.args.text.now in
    let small : length text ≤ 18446744073709551615 = search rules in
    let most : c.args.start ≤ 18446744073709551615 = search rules in
    (cut-bounds text c.args.start c.args.end 18446744073709551615 c.unwrap_or-end.result (c.requires (pieces text) (ArePiecesOf-pieces text)) c.unwrap_or-end.ensures small most).0

pub through-last-requires : goal.through-last-requires
through-last-requires c =
    let text = c.args.text.now in
    let small : length text ≤ 18446744073709551615 = search rules in
    let most : c.args.start ≤ 18446744073709551615 = search rules in
    let bounds = cut-bounds text c.args.start c.args.end 18446744073709551615 c.unwrap_or-end.result (c.requires (pieces text) (ArePiecesOf-pieces text)) c.unwrap_or-end.ensures small most in
    bounds.1 c.after-first.result.rest.now (c.after-first.ensures.rest ∙ ap (λ (t : List ℕ). from_place c.args.start (pieces t)) c.start_of.ensures.rest)

pub returns : goal.returns
returns c =
    let text = c.args.text.now in
    let from = c.start_of in
    let first = c.after-first.result in
    let last = c.through-last.result in
    let small : length text ≤ 18446744073709551615 = search rules in
    let most : c.args.start ≤ 18446744073709551615 = search rules in
    AreCutEnds-found text c.args.start c.args.end 18446744073709551615 c.unwrap_or-end.result (c.requires (pieces text) (ArePiecesOf-pieces text)) c.unwrap_or-end.ensures small most
    from.result.rest.now from.result.style first.rest.now first.style from.ensures.rest from.ensures.style c.after-first.ensures.rest c.after-first.ensures.style
    last.rest.now last.style c.through-last.ensures.slice c.through-last.ensures.style
