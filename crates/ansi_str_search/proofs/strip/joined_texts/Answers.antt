use Rattle.std.proofs.Common.{◌≡◌, ◌∙◌, ap, sym, flat_map, List}
use Rattle.std.proofs.lemmas.Iterator.Consumers.{YieldsList-from_first, YieldsList-end}
use Rattle.std.proofs.lemmas.List.{map-id}
use Rattle.ansi_scan.specs.declared.items.Item.{Item}
use Rattle.ansi_scan.specs.Scan.{items_left}
use Rattle.ansi_scan.specs.Places.{piece_at, placed}
use Rattle.ansi_scan.proofs.Reading.{flat_map-placed}
use Rattle.ansi_scan.proofs.Uniqueness.{ArePiecesOf-unique}
use Rattle.ansi_str_search.specs.Text.StyledText.{text_of, strip}
use Rattle.ansi_str_search.proofs.TextLemmas.Stripping.{shown-sequence, flat_map-nothing}
use Rattle.ansi_str_search.proofs.strip.joined_texts.Goals as goal

pub returns : goal.returns
returns c = λ pieces of_text.
    let are = c.scan-item-items.ensures.items in
    let done = YieldsList-end (YieldsList-from_first (λ x. x) items_left {s = c.into_iter-item-iterator.result} (items_left c.scan-item-items.result) (cc)) c.loop-item.yielded _ c.loop-item.yielded_by c.next.result c.next.new.self c.in-None.is c.next.ensures.steps in
    let yielded : c.loop-item.yielded ≡ placed 0 are.pieces = sym (map-id c.loop-item.yielded) ∙ done.0 ∙ are.at_places in
    c.loop-item.invariant
    ∙ ap (λ (items : List Item). flat_map (λ item. text_of (piece_at c.args.text.now item)) items) yielded
    ∙ flat_map-placed text_of c.args.text.now are.pieces are.of_text.joins
    ∙ ap strip (ArePiecesOf-unique c.args.text.now are.pieces pieces are.of_text of_text)

pub loop-item-preserved : goal.loop-item-preserved
loop-item-preserved c =
    let text = c.args.text.now in
    let none = shown-sequence c.in-Some.item.kind (piece_at text c.in-Some.item).bytes c.in_default.not-Text in
    c.loop-item.invariant ∙ sym (flat_map-nothing (λ item. text_of (piece_at text item)) c.loop-item.yielded c.in-Some.item none)
