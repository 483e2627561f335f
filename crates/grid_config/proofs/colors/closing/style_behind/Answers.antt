use Rattle.std.proofs.Common.{◌≡◌, ◌∙◌, List, ap, sym}
use Rattle.std.proofs.lemmas.Iterator.Consumers.{YieldsList-from_first, YieldsList-end}
use Rattle.std.proofs.lemmas.List.{map-id}
use Rattle.ansi_scan.specs.declared.items.Item.{Item}
use Rattle.ansi_scan.specs.Scan.{items_left}
use Rattle.ansi_scan.specs.Places.{placed}
use Rattle.ansi_scan.proofs.Reading.{fold-placed}
use Rattle.ansi_scan.proofs.Uniqueness.{ArePiecesOf-unique}
use Rattle.ansi_str_search.specs.Text.StyledText.{style_after, style_after_all}
use Rattle.grid_config.proofs.ColorsLemmas.Styles.{style_behind}
use Rattle.grid_config.proofs.colors.closing.style_behind.Goals as goal

pub returns : goal.returns
returns c = λ pieces of_text.
    let text = c.args.text.now in
    let are = c.scan-item-items.ensures.items in
    let done = YieldsList-end (YieldsList-from_first (λ x. x) items_left {s = c.into_iter-item-iterator.result} (items_left c.scan-item-items.result) (cc)) c.loop-item.yielded _ c.loop-item.yielded_by c.next.result c.next.new.self c.in-None.is c.next.ensures.steps in
    let yielded : c.loop-item.yielded ≡ placed 0 are.pieces = sym (map-id c.loop-item.yielded) ∙ done.0 ∙ are.at_places in
    c.loop-item.invariant
    ∙ ap (λ (items : List Item). style_behind text c.args.before items) yielded
    ∙ fold-placed style_after c.args.before text are.pieces are.of_text.joins
    ∙ ap (style_after_all c.args.before) (ArePiecesOf-unique text are.pieces pieces are.of_text of_text)
