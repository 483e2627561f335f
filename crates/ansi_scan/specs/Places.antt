-- The items of a text: its pieces, each with the bytes at which it begins and ends.
use Rattle.std.specs.Prelude.{◌≡◌, ◌+◌, ◌≤◌, ℕ, Bool, true, false, List, [], ◌∷◌, length, slice_range}
use Rattle.std.specs.Str.{IsCharBoundary}
use Rattle.ansi_scan.specs.declared.items.Item.{Item}
use Rattle.ansi_scan.specs.declared.items.Kind.{Kind}
use Rattle.ansi_scan.specs.declared.items.Kind.TheVariants.{Text, Sgr, Csi, Osc, Esc, Str, Broken}
use Rattle.ansi_scan.specs.Sequences.{Piece, ArePiecesOf}

-- the pieces, each at its place, where the first begins at this one
abbrev pub placed : ℕ → List Piece → List Item
placed at [] = []
placed at (p ∷ ps) =
    record { kind = p.kind; start = at; end = at + length p.bytes } ∷ placed (at + length p.bytes) ps

-- the items are the pieces of the text at their places
pub record AreItemsOf (text : List ℕ) (items : List Item) : Type 0 where
  pub pieces : List Piece
  pub of_text : ArePiecesOf text pieces
  pub at_places : items ≡ placed 0 pieces

-- the piece of the text at the places of the item
abbrev pub piece_at : List ℕ → Item → Piece
piece_at text item = record { kind = item.kind; bytes = slice_range text item.start item.end }

-- the text can be cut at both ends of the item
pub record CanBeCutAround (text : List ℕ) (item : Item) : Type 0 where
  pub in_order : item.start ≤ item.end
  pub start : IsCharBoundary text item.start
  pub end : IsCharBoundary text item.end

-- the kind is Broken
abbrev pub is_broken_kind : Kind → Bool
is_broken_kind Text = false
is_broken_kind Sgr = false
is_broken_kind Csi = false
is_broken_kind Osc = false
is_broken_kind Esc = false
is_broken_kind Str = false
is_broken_kind Broken = true

-- the item is Broken
abbrev pub is_broken : Item → Bool
is_broken item = is_broken_kind item.kind
