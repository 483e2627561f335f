-- Text with escape sequences: the characters that it shows, each with its style.
use Rattle.std.specs.Prelude.{◌≡◌, ◌==◌, ℕ, Bool, List, [], ◌∷◌, ◌++◌, map, flat_map, fold, chars, IsTrue}
use Rattle.std.specs.Cow.{IsOwnedStr}
use Rattle.std.specs.List.{list_any}
use Rattle.std.specs.declared.borrow.CowStr.{CowStr}
use Rattle.ansi_scan.specs.declared.items.Kind.TheVariants.{Text, Sgr, Csi, Osc, Esc, Str, Broken}
use Rattle.ansi_scan.specs.declared.items.Kind.{Kind}
use Rattle.ansi_scan.specs.Sequences.{Piece, escape, NoneBroken}
use Rattle.ansi_scan.specs.Attributes.{Attributes, plain_attributes}
use Rattle.ansi_scan.specs.Rendition.{applied}

-- an ESC is among the bytes
abbrev pub has_escape : List ℕ → Bool
has_escape bytes = list_any (λ byte. byte == escape) bytes

-- a text without an ESC is borrowed, and not copied
abbrev pub BorrowsWithoutEscape : {Z : Type 0} → List ℕ → CowStr Z → Type 0
BorrowsWithoutEscape text part = IsOwnedStr part → IsTrue (has_escape text)

-- the bytes of a piece that show characters: those of a text piece
abbrev pub shown : Kind → List ℕ → List ℕ
shown Text bytes = bytes
shown Sgr bytes = []
shown Csi bytes = []
shown Osc bytes = []
shown Esc bytes = []
shown Str bytes = []
shown Broken bytes = []

abbrev pub text_of : Piece → List ℕ
text_of piece = shown piece.kind piece.bytes

-- the text without its sequences; a broken ESC counts as a sequence
abbrev pub strip : List Piece → List ℕ
strip pieces = flat_map text_of pieces

-- the style after a piece: SELECT GRAPHIC RENDITION changes it, and nothing else does
abbrev pub style_by : Attributes → Kind → List ℕ → Attributes
style_by style Text bytes = style
style_by style Sgr bytes = applied style bytes
style_by style Csi bytes = style
style_by style Osc bytes = style
style_by style Esc bytes = style
style_by style Str bytes = style
style_by style Broken bytes = style

abbrev pub style_after : Attributes → Piece → Attributes
style_after style piece = style_by style piece.kind piece.bytes

-- the style that is known after the pieces, where this one was known before them
abbrev pub style_after_all : Attributes → List Piece → Attributes
style_after_all style pieces = fold style_after style pieces

-- the characters of the pieces, each with the style known before it, where this one is known before all
abbrev pub styled_from : Attributes → List Piece → List (ℕ × Attributes)
styled_from style [] = []
styled_from style (piece ∷ pieces) =
    map (λ c. (c, style)) (chars (text_of piece)) ++ styled_from (style_after style piece) pieces

abbrev pub styled : List Piece → List (ℕ × Attributes)
styled pieces = styled_from plain_attributes pieces

-- no ESC is broken, and no style is open at the end
pub record IsClosed (pieces : List Piece) : Type 0 where
  pub none_broken : NoneBroken pieces
  pub plain : style_after_all plain_attributes pieces ≡ plain_attributes
