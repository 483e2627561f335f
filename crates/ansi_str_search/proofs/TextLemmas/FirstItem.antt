-- The first item of a text, and the text after it.
use Rattle.std.proofs.Common.{◌≡◌, ◌+◌, ◌<◌, ◌≤◌, ℕ, List, [], ◌∷◌, ◌++◌, length, drop, slice_range, subst, refl, ap, sym, ◌∙◌, arith, zero-add, length-append}
use Rattle.std.proofs.Math.Seq.{drop-append_seam}
use Rattle.ansi_scan.specs.declared.items.Item.{Item}
use Rattle.ansi_scan.specs.Sequences.{Piece, joined, EachStands}
use Rattle.ansi_scan.specs.Places.{AreItemsOf, placed}
use Rattle.ansi_scan.specs.Pieces.{pieces}
use Rattle.ansi_scan.proofs.Uniqueness.{Stands-some, pieces-joined}
use Rattle.ansi_scan.proofs.Reading.{slice_range-middle}

-- the item is the first of the text, and what comes after it is read as it was
pub record IsFirstItem (text : List ℕ) (item : Item) : Type 0 where
  pub read : pieces text ≡ record { kind = item.kind; bytes = slice_range text 0 item.end } ∷ pieces (drop item.end text)
  pub some : 0 < item.end
  pub within : item.end ≤ length text

abbrev placed_first : Piece → Item
placed_first piece = record { kind = piece.kind; start = 0; end = 0 + length piece.bytes }

IsFirstItem-joined : (piece : Piece) (after : List Piece) → EachStands (piece ∷ after) → IsFirstItem (joined (piece ∷ after)) (placed_first piece)
IsFirstItem-joined piece after stands =
    let len : 0 + length piece.bytes ≡ length piece.bytes = zero-add (length piece.bytes) in
    let some : 0 < length piece.bytes = Stands-some piece.kind piece.bytes after stands.0 in
    let own : slice_range (piece.bytes ++ joined after) 0 (0 + length piece.bytes) ≡ piece.bytes = slice_range-middle [] piece.bytes (joined after) in
    let left : drop (0 + length piece.bytes) (piece.bytes ++ joined after) ≡ joined after =
    ap (λ n. drop n (piece.bytes ++ joined after)) len ∙ drop-append_seam piece.bytes (joined after) in
    record {
      read = pieces-joined (piece ∷ after) stands
          ∙ ap (λ bytes. record { kind = piece.kind; bytes = bytes } ∷ after) (sym own)
          ∙ ap (λ others. record { kind = piece.kind; bytes = slice_range (piece.bytes ++ joined after) 0 (0 + length piece.bytes) } ∷ others) (sym (ap pieces left ∙ pieces-joined after stands.1));
      some = omega arith;
      within = omega (arith, length-append piece.bytes (joined after));
    }

IsFirstItem-placed : (items rest : List Item) (item : Item) (ps : List Piece) → EachStands ps → placed 0 ps ≡ item ∷ rest → IsFirstItem (joined ps) item
IsFirstItem-placed items rest item [] stands same = absurd (cc same)
IsFirstItem-placed items rest item (piece ∷ after) stands same =
    let first : placed_first piece ≡ item = cc same in
    subst (λ (found : Item). IsFirstItem (joined (piece ∷ after)) found) first (IsFirstItem-joined piece after stands)

pub IsFirstItem-items : (text : List ℕ) (items rest : List Item) (item : Item) → AreItemsOf text items → items ≡ item ∷ rest → IsFirstItem text item
IsFirstItem-items text items rest item are same =
    subst (λ (found : List ℕ). IsFirstItem found item) are.of_text.joins
    (IsFirstItem-placed items rest item are.pieces are.of_text.stand (sym are.at_places ∙ same))

-- a text without items is empty
pub pieces-nothing : (text : List ℕ) (items : List Item) → AreItemsOf text items → items ≡ [] → pieces text ≡ []
pieces-nothing text items are same = ap pieces (sym are.of_text.joins) ∙ pieces-joined are.pieces are.of_text.stand ∙ none are.pieces (sym are.at_places ∙ same)
  where
    none : (ps : List Piece) → placed 0 ps ≡ [] → ps ≡ []
    none [] h = refl
    none (p ∷ ps) h = absurd (cc h)
