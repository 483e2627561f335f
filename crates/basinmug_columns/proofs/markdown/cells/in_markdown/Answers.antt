-- All items were appended at the end.
use Rattle.std.proofs.Common.{◌≡◌, ◌∙◌, ap, sym, flat_map, List}
use Rattle.std.proofs.lemmas.Iterator.Consumers.{YieldsList-from_first, YieldsList-end}
use Rattle.std.proofs.lemmas.List.{map-id}
use Rattle.ansi_scan.specs.declared.items.Item.{Item}
use Rattle.ansi_scan.specs.Scan.{items_left}
use Rattle.ansi_scan.specs.Places.{piece_at, placed}
use Rattle.ansi_scan.specs.Pieces.{pieces}
use Rattle.ansi_scan.proofs.Existence.{ArePiecesOf-pieces}
use Rattle.ansi_scan.proofs.Reading.{flat_map-placed}
use Rattle.ansi_scan.proofs.Uniqueness.{ArePiecesOf-unique}
use Rattle.basinmug_columns.specs.Markdown.Escapes.{markdown_piece}
use Rattle.basinmug_columns.proofs.markdown.cells.in_markdown.Goals as goal

pub returns : goal.returns
returns c =
    let text = c.args.text.now in
    let are = c.scan-item-items.ensures.items in
    let done = YieldsList-end (YieldsList-from_first (λ x. x) items_left {s = c.into_iter-item-iterator.result} (items_left c.scan-item-items.result) (cc)) c.loop-item.yielded _ c.loop-item.yielded_by c.next.result c.next.new.self c.in-None.is c.next.ensures.steps in
    let yielded : c.loop-item.yielded ≡ placed 0 are.pieces = sym (map-id c.loop-item.yielded) ∙ done.0 ∙ are.at_places in
    c.loop-item.invariant
    ∙ ap (λ (items : List Item). flat_map (λ item. markdown_piece (piece_at text item)) items) yielded
    ∙ flat_map-placed markdown_piece text are.pieces are.of_text.joins
    ∙ ap (flat_map markdown_piece) (ArePiecesOf-unique text are.pieces (pieces text) are.of_text (ArePiecesOf-pieces text))
