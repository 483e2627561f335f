-- Steps through the pieces of a text.
use Rattle.std.specs.Prelude.{◌≡◌, ◌<◌, slice_index, length, None, Some, unwrap_or, ◌==◌, ◌&&◌, not, ℕ, Bool, false, List, [], ◌∷◌, if◌then◌else◌, suc, flat_map}
use Rattle.ansi_scan.specs.Sequences.{Piece, escape, is_not_escape}
use Rattle.ansi_scan.specs.Joining.{is_text_kind}
use Rattle.ansi_scan.specs.Attributes.{Attributes}
use Rattle.ansi_scan.specs.Pieces.{pieces}
use Rattle.ansi_str_search.specs.Text.StyledText.{strip, style_after, style_after_all}
use Rattle.ansi_str_search.specs.Parts.{from_place, through_place}
use Rattle.ansi_str_search.specs.PartsLeft.{first_match}

-- the pieces from the first text on
abbrev pub from_text : List Piece → List Piece
from_text [] = []
from_text (piece ∷ pieces) = if is_text_kind piece.kind then piece ∷ pieces else from_text pieces

-- the sequences, without the text between them
abbrev pub sequence_of : Piece → List ℕ
sequence_of piece = if is_text_kind piece.kind then [] else piece.bytes

abbrev pub sequences : List Piece → List ℕ
sequences pieces = flat_map sequence_of pieces

-- after the first of some pieces, before which this style is known, are the others, before which that style is
pub record AreFirstAndRest (style : Attributes) (all : List Piece) (after : Attributes) (rest : List Piece) : Type 0 where
  pub first : Piece
  pub parted : all ≡ first ∷ rest
  pub styled : after ≡ style_after style first

-- the first byte is ESC
abbrev pub begins_with_escape : List ℕ → Bool
begins_with_escape [] = false
begins_with_escape (b ∷ bs) = b == escape

-- the rest comes after the first of the pieces
pub record IsBehindFirst (all rest : List Piece) : Type 0 where
  pub first : Piece
  pub parted : all ≡ first ∷ rest

-- neither ESC nor this byte
abbrev pub is_other : ℕ → ℕ → Bool
is_other byte b = is_not_escape b && not (b == byte)

-- how many bytes the text shows before the first such byte, or at all
abbrev pub bytes_to : ℕ → List ℕ → ℕ
bytes_to byte text = unwrap_or (first_match (byte ∷ []) 0 (strip (pieces text))) (length (strip (pieces text)))

-- a walk through this text, before which this style is known, leads to the first such byte of what it shows, or to
-- its end: `end` is what is left there, and that style is known before it
pub record Lands (byte : ℕ) (text : List ℕ) (style : Attributes) (end : List ℕ) (end_style : Attributes) : Type 0 where
  pub there : pieces end ≡ from_text (from_place (bytes_to byte text) (pieces text))
  pub known : end_style ≡ style_after_all style (through_place (bytes_to byte text) (pieces text))
  pub found : first_match (byte ∷ []) 0 (strip (pieces text)) ≡ if length end == 0 then None else Some (bytes_to byte text)
  pub at : 0 < length end → slice_index end 0 ≡ byte
  pub shows_text : begins_with_escape end ≡ false

-- how many of the first bytes of two lists are the same, and not ESC
abbrev pub shared_len : List ℕ → List ℕ → ℕ
shared_len [] bs = 0
shared_len (a ∷ others) [] = 0
shared_len (a ∷ others) (b ∷ bs) = if is_not_escape b && b == a then suc (shared_len others bs) else 0
