-- A step over a place.
use Rattle.std.proofs.Common.{◌≡◌, ◌∙◌, ◌∷◌, [], ◌+◌, ◌-◌, ◌<◌, ℕ, suc, List, length, map, drop, get_or, sym, ap, subst, arith}
use Rattle.std.specs.Cow.{cow_str_bytes}
use Rattle.std.proofs.Math.Seq.{drop-cons}
use Rattle.std.proofs.lemmas.List.{map-append, drop_all}
use Rattle.ansi_scan.specs.Pieces.{pieces}
use Rattle.ansi_scan.specs.Attributes.{Attributes}
use Rattle.ansi_scan.proofs.Existence.{ArePiecesOf-pieces}
use Rattle.ansi_str.specs.StyledText.{strip}
use Rattle.ansi_str_search.proofs.Rests.{strip-fits}
use Rattle.ansi_str.proofs.CutSteps.{good-none}
use Rattle.ansi_str.proofs.SplitSteps.{Walked, Walked-start, Walked-next, Walked-end, part-dressed}
use Rattle.ansi_str.proofs.places.split_places.Goals as goal

-- the next place is the first of those that are left
next : (text places : List ℕ) (parts : List (List ℕ)) (rest : List ℕ) (style : Attributes) (from i : ℕ) → i < length places → Walked text places parts rest style from (drop i places)
    → Walked text places parts rest style from (get_or places i 0 ∷ drop (i + 1) places)
next text places parts rest style from i less walked =
    let one : suc i ≡ i + 1 = omega arith in
    subst (λ left. Walked text places parts rest style from left) (drop-cons places i 0 less ∙ ap (λ n. get_or places i 0 ∷ drop n places) one) walked

pub loop-at-init : goal.loop-at-init
loop-at-init c =
    let text = c.args.text.now in
    let from = c.start_of-place in
    let none : map cow_str_bytes c.new-parts.result.items ≡ [] = ap (map cow_str_bytes) c.new-parts.ensures.items in
    subst (λ (parts : List (List ℕ)). Walked text c.args.places.now parts from.result.rest.now from.result.style 0 c.args.places.now) (sym none)
    (Walked-start text c.args.places.now from.result.rest.now from.result.style (c.requires (pieces text) (ArePiecesOf-pieces text)) from.ensures.rest from.ensures.style)

pub loop-at-preserved : goal.loop-at-preserved
loop-at-preserved c =
    let text = c.args.text.now in
    let places = c.args.places.now in
    let place = c.loop-at.place in
    let end = c.through-end.result in
    let i = c.loop-at.at-index in
    let at = get_or places i 0 in
    let parts = map cow_str_bytes c.loop-at.parts.items in
    let part = c.in_ok-part_to.field-0 in
    let walked = next text places parts place.rest.now place.style c.loop-at.from i c.loop-at-test.true c.loop-at.invariant in
    let is_part = c.in_ok-part_to.ensures.part ∙ part-dressed place.rest.now place.style (at - c.loop-at.from) end.rest.now end.style c.through-end.ensures.slice c.through-end.ensures.style in
    let pushed = ap (map cow_str_bytes) c.in_ok-push.ensures.items ∙ map-append cow_str_bytes c.loop-at.parts.items (part ∷ []) in
    subst (λ (found : List (List ℕ)). Walked text places found end.rest.now end.style at (drop (i + 1) places)) (sym pushed)
    (Walked-next text places parts place.rest.now place.style c.loop-at.from at (drop (i + 1) places) walked (cow_str_bytes part) end.rest.now end.style is_part c.through-end.ensures.rest c.through-end.ensures.style)

pub through-end-requires-2 : goal.through-end-requires-2
through-end-requires-2 c = let rest = c.loop-at.place.rest.now in good-none (strip (pieces rest)) (length rest) (strip-fits rest)

pub returns : goal.returns
returns c = λ ps of_text.
    let text = c.args.text.now in
    let places = c.args.places.now in
    let place = c.loop-at.place in
    let end = c.through-end-2.result in
    let parts = map cow_str_bytes c.loop-at.parts.items in
    let part = c.in_ok-part_to-2.field-0 in
    let none : drop c.loop-at.at-index places ≡ [] = drop_all c.loop-at.at-index places (omega (arith, c.loop-at-test.false)) in
    let walked = subst (Walked text places parts place.rest.now place.style c.loop-at.from) none c.loop-at.invariant in
    let is_part = c.in_ok-part_to-2.ensures.part ∙ part-dressed place.rest.now place.style (length place.rest.now) end.rest.now end.style c.through-end-2.ensures.slice c.through-end-2.ensures.style in
    ap (map cow_str_bytes) c.in_ok-push-2.ensures.items ∙ map-append cow_str_bytes c.loop-at.parts.items (part ∷ [])
    ∙ Walked-end text places parts place.rest.now place.style c.loop-at.from (c.requires (pieces text) (ArePiecesOf-pieces text)) walked (cow_str_bytes part) is_part ps of_text
