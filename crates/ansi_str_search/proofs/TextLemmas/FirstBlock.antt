-- The blocks of a text, item by item.
use Rattle.std.proofs.Common.{◌≡◌, ◌≢◌, ◌<◌, ◌≤◌, ℕ, List, [], ◌∷◌, ◌++◌, length, drop, slice_range, refl, ap, sym, ◌∙◌, arith, length-append, length-drop}
use Rattle.ansi_scan.specs.declared.items.Item.{Item}
use Rattle.ansi_scan.specs.declared.items.Kind.{Kind}
use Rattle.ansi_scan.specs.declared.items.Kind.TheVariants.{Text, Sgr, Csi, Osc, Esc, Str, Broken}
use Rattle.ansi_scan.specs.Sequences.{Piece, joined, Stands, EachStands}
use Rattle.ansi_scan.specs.Places.{AreItemsOf}
use Rattle.ansi_scan.specs.Pieces.{pieces}
use Rattle.ansi_scan.proofs.Existence.{ArePiecesOf-pieces}
use Rattle.ansi_scan.specs.Attributes.{Attributes}
use Rattle.ansi_str_search.specs.Text.StyledText.{style_by, style_after}
use Rattle.ansi_str_search.specs.Text.Blocks.{block_if, blocks_from}
use Rattle.ansi_str_search.proofs.TextLemmas.FirstItem.{IsFirstItem-items}

-- the blocks of a text are those of its first item and of the text after it
pub blocks_from-item : (style : Attributes) (text bytes behind : List ℕ) (items rest : List Item) (item : Item) → AreItemsOf text items → items ≡ item ∷ rest
    → bytes ≡ slice_range text 0 item.end → behind ≡ drop item.end text
    → blocks_from style (pieces text) ≡ block_if item.kind bytes style ++ blocks_from (style_by style item.kind bytes) (pieces behind)
blocks_from-item style text bytes behind items rest item are first own left =
    ap (λ (found : List Piece). blocks_from style found) (IsFirstItem-items text items rest item are first).read
    ∙ ap (λ (read : List ℕ). block_if item.kind read style ++ blocks_from (style_by style item.kind read) (pieces (drop item.end text))) (sym own)
    ∙ ap (λ (others : List ℕ). block_if item.kind bytes style ++ blocks_from (style_by style item.kind bytes) (pieces others)) (sym left)

-- what is neither text nor a rendition gives no block and sets no style
pub block_if-other : (kind : Kind) (bytes : List ℕ) (style : Attributes) (others : List Piece) → kind ≢ Text → kind ≢ Sgr
    → block_if kind bytes style ++ blocks_from (style_by style kind bytes) others ≡ blocks_from style others
block_if-other Text bytes style others no_text no_rendition = absurd (no_text refl)
block_if-other Sgr bytes style others no_text no_rendition = absurd (no_rendition refl)
block_if-other Csi bytes style others no_text no_rendition = refl
block_if-other Osc bytes style others no_text no_rendition = refl
block_if-other Esc bytes style others no_text no_rendition = refl
block_if-other Str bytes style others no_text no_rendition = refl
block_if-other Broken bytes style others no_text no_rendition = refl

-- the text after the first item is shorter
pub shorter : (text behind : List ℕ) (items rest : List Item) (item : Item) → AreItemsOf text items → items ≡ item ∷ rest → behind ≡ drop item.end text → length behind < length text
shorter text behind items rest item are first left =
    let found = IsFirstItem-items text items rest item are first in
    let len : length behind ≡ length (drop item.end text) = ap length left in
    omega (arith, found.some, found.within, length-drop item.end text)

length-block_if : (kind : Kind) (bytes : List ℕ) (after : List Piece) (style : Attributes) → Stands kind bytes after → length (block_if kind bytes style) ≤ length bytes
length-block_if Text bytes after style stands = omega (arith, stands.some)
length-block_if Sgr bytes after style stands = omega arith
length-block_if Csi bytes after style stands = omega arith
length-block_if Osc bytes after style stands = omega arith
length-block_if Esc bytes after style stands = omega arith
length-block_if Str bytes after style stands = omega arith
length-block_if Broken bytes after style stands = omega arith

length-blocks_from : (style : Attributes) (ps : List Piece) → EachStands ps → length (blocks_from style ps) ≤ length (joined ps)
length-blocks_from style [] stands = omega arith
length-blocks_from style (piece ∷ after) stands =
    let here = length-block_if piece.kind piece.bytes after style stands.0 in
    let others = length-blocks_from (style_after style piece) after stands.1 in
    omega (arith, here, others, length-append piece.bytes (joined after), length-append (block_if piece.kind piece.bytes style) (blocks_from (style_after style piece) after))

-- a text has no more blocks than bytes
pub length-blocks : (style : Attributes) (text : List ℕ) → length (blocks_from style (pieces text)) ≤ length text
length-blocks style text =
    let are = ArePiecesOf-pieces text in
    let same : length (joined (pieces text)) ≡ length text = ap length are.joins in
    omega (arith, same, length-blocks_from style (pieces text) are.stand)
