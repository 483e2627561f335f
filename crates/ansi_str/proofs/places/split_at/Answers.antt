-- The two sides of one place.
use Rattle.std.proofs.Common.{◌≡◌, ◌∙◌, ◌∷◌, ◌++◌, [], true, false, ℕ, List, length, sym, ap, subst}
use Rattle.std.specs.Cow.{cow_str_bytes}
use Rattle.ansi_scan.specs.Sequences.{joined}
use Rattle.ansi_scan.specs.Pieces.{pieces}
use Rattle.ansi_scan.specs.Attributes.{Attributes, plain_attributes}
use Rattle.ansi_scan.proofs.Existence.{ArePiecesOf-pieces}
use Rattle.ansi_scan.proofs.Uniqueness.{ArePiecesOf-unique}
use Rattle.ansi_str.specs.StyledText.{strip, has_escape, style_after_all}
use Rattle.ansi_str.specs.Parts.{from_place, through_place, dressed, IsGoodBound}
use Rattle.ansi_str.specs.Walking.{from_text}
use Rattle.ansi_str_search.proofs.Rests.{strip-fits, no_escape-behind}
use Rattle.ansi_str.proofs.CutSteps.{good-none, plain-through, true-unless}
use Rattle.ansi_str.proofs.SplitSteps.{parts_at-one, part-dressed, through-rest}
use Rattle.ansi_str.proofs.places.split_at.Goals as goal

pub through-cut-requires : goal.through-cut-requires
through-cut-requires c =
    let text = c.args.text.now in
    subst (λ (t : List ℕ). IsGoodBound (strip (pieces t)) c.args.mid) (sym c.start_of-start.ensures.rest) (c.requires (pieces text) (ArePiecesOf-pieces text))

pub through-requires : goal.through-requires
through-requires c = let rest = c.through-cut.result.rest.now in good-none (strip (pieces rest)) (length rest) (strip-fits rest)

-- a text without ESC has no style at the place, and none at its end
plain-both : (rest left : List ℕ) (mid : ℕ) (style cut_style end_style : Attributes) → has_escape rest ≡ false → style ≡ plain_attributes
    → cut_style ≡ style_after_all style (through_place mid (pieces rest)) → rest ≡ joined (through_place mid (pieces rest)) ++ left
    → end_style ≡ style_after_all cut_style (through_place (length left) (pieces left)) → (cut_style ≡ plain_attributes) × (end_style ≡ plain_attributes)
plain-both rest left mid style cut_style end_style gone plain opened parted ended =
    let cut = opened ∙ plain-through mid rest style gone ∙ plain in
    (cut, ended ∙ plain-through (length left) left cut_style (no_escape-behind rest (joined (through_place mid (pieces rest))) left parted gone) ∙ cut)

pub returns-in_err-first-clause-answers : goal.returns-in_err-first-clause-answers
returns-in_err-first-clause-answers c = λ gone.
    let from = c.start_of-start in
    let none = ap has_escape from.ensures.rest ∙ gone in
    let plain = c.through-cut.ensures.style ∙ plain-through c.args.mid from.result.rest.now from.result.style none ∙ from.ensures.style in
    let answered : false ≡ true = c.in_err-first.ensures.answers from.ensures.style plain in
    cc answered

pub returns-in_err-second-clause-answers : goal.returns-in_err-second-clause-answers
returns-in_err-second-clause-answers c = λ gone.
    let from = c.start_of-start in
    let cut = c.through-cut in
    let plain = plain-both from.result.rest.now cut.result.rest.now c.args.mid from.result.style cut.result.style c.through.result.style (ap has_escape from.ensures.rest ∙ gone) from.ensures.style
    cut.ensures.style cut.ensures.slice c.through.ensures.style in
    let answered : false ≡ true = c.in_err-second.ensures.answers plain.0 plain.1 in
    cc answered

pub returns-clause-parts : goal.returns-clause-parts
returns-clause-parts c = λ ps of_text.
    let from = c.start_of-start in
    let cut = c.through-cut.result in
    let end = c.through.result in
    let text = c.args.text.now in
    let qs = pieces from.result.rest.now in
    let rest = c.through-cut.ensures.rest in
    let style = c.through-cut.ensures.style in
    let same : qs ≡ ps = ap pieces from.ensures.rest ∙ ArePiecesOf-unique text (pieces text) ps (ArePiecesOf-pieces text) of_text in
    let first = c.in_ok-first.ensures.part ∙ part-dressed from.result.rest.now from.result.style c.args.mid cut.rest.now cut.style c.through-cut.ensures.slice style in
    let second = c.in_ok-second.ensures.part ∙ part-dressed cut.rest.now cut.style (length cut.rest.now) end.rest.now end.style c.through.ensures.slice c.through.ensures.style in
    let opened : cut.style ≡ style_after_all plain_attributes (through_place c.args.mid qs) = style ∙ ap (λ s. style_after_all s (through_place c.args.mid qs)) from.ensures.style in
    parts_at-one ps of_text.stand c.args.mid (c.requires ps of_text)
    ∙ ap (λ found. dressed plain_attributes (through_place c.args.mid found) ∷ dressed (style_after_all plain_attributes (through_place c.args.mid found)) (from_text (from_place c.args.mid found)) ∷ []) (sym same)
    ∙ ap (λ s. dressed s (through_place c.args.mid qs) ∷ dressed (style_after_all plain_attributes (through_place c.args.mid qs)) (from_text (from_place c.args.mid qs)) ∷ []) (sym from.ensures.style)
    ∙ ap (λ s. dressed from.result.style (through_place c.args.mid qs) ∷ dressed s (from_text (from_place c.args.mid qs)) ∷ []) (sym opened)
    ∙ ap (λ found. dressed from.result.style (through_place c.args.mid qs) ∷ dressed cut.style found ∷ []) (sym rest ∙ sym (through-rest cut.rest.now))
    ∙ ap (λ bytes. bytes ∷ dressed cut.style (through_place (length cut.rest.now) (pieces cut.rest.now)) ∷ []) (sym first)
    ∙ ap (λ bytes. cow_str_bytes c.in_ok-first.first ∷ bytes ∷ []) (sym second)

pub returns-clause-borrows : goal.returns-clause-borrows
returns-clause-borrows c =
    let text = c.args.text.now in
    let from = c.start_of-start in
    let cut = c.through-cut in
    let plain = λ (gone : has_escape text ≡ false). plain-both from.result.rest.now cut.result.rest.now c.args.mid from.result.style cut.result.style c.through.result.style (ap has_escape from.ensures.rest ∙ gone) from.ensures.style
    cut.ensures.style cut.ensures.slice c.through.ensures.style in (
      λ owned. true-unless (has_escape text) (λ gone. c.in_ok-first.ensures.borrows from.ensures.style (plain gone).0 owned),
      λ owned. true-unless (has_escape text) (λ gone. c.in_ok-second.ensures.borrows (plain gone).0 (plain gone).1 owned),
    )
