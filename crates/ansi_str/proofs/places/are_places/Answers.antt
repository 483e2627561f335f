-- The walk reports whether the places rise and are boundaries.
use Rattle.std.proofs.Common.{◌≡◌, ◌∙◌, ◌∷◌, [], ◌+◌, ◌-◌, ◌<◌, ◌≤◌, ℕ, suc, Bool, List, length, drop, get_or, ap, subst, true, false, arith, IsTrue, refl}
use Rattle.std.specs.Prelude.{◌↔◌}
use Rattle.std.proofs.Math.Seq.{drop-cons}
use Rattle.std.proofs.lemmas.List.{drop_all}
use Rattle.ansi_scan.specs.Sequences.{Piece, ArePiecesOf}
use Rattle.ansi_scan.specs.Pieces.{pieces}
use Rattle.ansi_str.specs.StyledText.{strip}
use Rattle.ansi_str.specs.Cuts.{AreSplitPlaces}
use Rattle.ansi_str_search.proofs.Searches.{of_pieces}
use Rattle.ansi_str.proofs.RisingPlaces.{Tested, Tested-start, Tested-falls, Tested-inside, Tested-next, Tested-end, AreSplitPlaces-first, IsUtf8-behind}
use Rattle.ansi_str.proofs.places.are_places.Goals as goal

-- what is known of the pieces of the text is known of all of its pieces
told : (found : Bool) (text places : List ℕ) → (IsTrue found ↔ AreSplitPlaces (strip (pieces text)) places) → (ps : List Piece) → ArePiecesOf text ps → IsTrue found ↔ AreSplitPlaces (strip ps) places
told found text places tells = of_pieces (λ (ps : List Piece). IsTrue found ↔ AreSplitPlaces (strip ps) places) text tells

refused : (text places : List ℕ) → ¬ (AreSplitPlaces (strip (pieces text)) places) → (ps : List Piece) → ArePiecesOf text ps → IsTrue false ↔ AreSplitPlaces (strip ps) places
refused text places none = told false text places (λ e. cc e, λ can_split. absurd (none can_split))

-- the next place is the first of those that are left
next : (text places rest others : List ℕ) (from i : ℕ) → i < length others → Tested text places rest from (drop i others) → Tested text places rest from (get_or others i 0 ∷ drop (i + 1) others)
next text places rest others from i less tested =
    let one : suc i ≡ i + 1 = omega arith in
    subst (λ left. Tested text places rest from left) (drop-cons others i 0 less ∙ ap (λ n. get_or others i 0 ∷ drop n others) one) tested

pub returns-in_default-behind_place : goal.returns-in_default-behind_place
returns-in_default-behind_place c =
    let places = c.args.places.now in
    let text = c.args.text.now in
    let shown = strip (pieces text) in
    let first = c.in-Some.first.now in
    let others = c.in-Some.others.now in
    let same : places ≡ first ∷ others = c.in-Some.ensures.cases.0 in
    refused text places (λ can_split. absurd (c.in_default-behind_place.ensures (AreSplitPlaces-first shown first others (subst (AreSplitPlaces shown) same can_split))))

pub loop-at-init : goal.loop-at-init
loop-at-init c =
    let text = c.args.text.now in
    let first = c.in-Some.first.now in
    let rest = c.in-Some-behind_place.rest.now in
    let here = c.in-Some-behind_place.ensures.0 in
    let there = c.in-Some-behind_place.ensures.1 in (
      IsUtf8-behind text rest first c.utf8.text here there,
      Tested-start text c.args.places.now rest first c.in-Some.others.now c.in-Some.ensures.cases.0 here there,
    )

pub returns-then-at-from : goal.returns-then-at-from
returns-then-at-from c =
    let others = c.in-Some.others.now in
    let l = c.loop-at in
    let low : get_or others l.at-index 0 ≤ l.from = omega (arith, c.if-at-from.true) in
    let here = next c.args.text.now c.args.places.now l.rest.now others l.from l.at-index c.loop-at-test.true l.invariant.1 in
    refused c.args.text.now c.args.places.now (Tested-falls c.args.text.now c.args.places.now l.rest.now l.from (get_or others l.at-index 0) (drop (l.at-index + 1) others) here low)

pub returns-in_default-behind_place-2 : goal.returns-in_default-behind_place-2
returns-in_default-behind_place-2 c =
    let others = c.in-Some.others.now in
    let l = c.loop-at in
    let less : l.from < get_or others l.at-index 0 = omega (arith, c.if-at-from.false) in
    let here = next c.args.text.now c.args.places.now l.rest.now others l.from l.at-index c.loop-at-test.true l.invariant.1 in
    refused c.args.text.now c.args.places.now
    (Tested-inside c.args.text.now c.args.places.now l.rest.now l.from (get_or others l.at-index 0) (drop (l.at-index + 1) others) here less c.in_default-behind_place-2.ensures)

pub loop-at-preserved : goal.loop-at-preserved
loop-at-preserved c =
    let text = c.args.text.now in
    let places = c.args.places.now in
    let others = c.in-Some.others.now in
    let l = c.loop-at in
    let i = l.at-index in
    let at = get_or others i 0 in
    let less : l.from < at = omega (arith, c.if-at-from.false) in
    let behind = c.in-Some-behind_place-2.behind.now in
    let here = c.in-Some-behind_place-2.ensures.0 in
    let there = c.in-Some-behind_place-2.ensures.1 in (
      IsUtf8-behind l.rest.now behind (at - l.from) l.invariant.0 here there,
      Tested-next text places l.rest.now l.from at (drop (i + 1) others) (next text places l.rest.now others l.from i c.loop-at-test.true l.invariant.1) behind less here there,
    )

pub returns : goal.returns
returns c =
    let text = c.args.text.now in
    let others = c.in-Some.others.now in
    let l = c.loop-at in
    let none : drop l.at-index others ≡ [] = drop_all l.at-index others c.loop-at-test.false in
    let rises = Tested-end text c.args.places.now l.rest.now l.from (subst (Tested text c.args.places.now l.rest.now l.from) none l.invariant.1) in
    told true text c.args.places.now (λ _. rises, λ _. refl)
