-- Where the slice of a cut begins and ends.
use Rattle.std.specs.Prelude.{◌≡◌, ◌++◌, ◌-◌, ℕ, false, List, length, take, Option}
use Rattle.ansi_scan.specs.Sequences.{Piece, ArePiecesOf, joined}
use Rattle.ansi_scan.specs.Pieces.{pieces}
use Rattle.ansi_scan.specs.Attributes.{Attributes, plain_attributes}
use Rattle.ansi_scan.specs.StartsAndEnds.{end_bytes}
use Rattle.ansi_str.specs.StyledText.{has_escape}
use Rattle.ansi_str.specs.Parts.{before_place}
use Rattle.ansi_str.specs.Walking.{sequences}
use Rattle.ansi_str.specs.Cuts.{cut_between}

-- what is known of a cut, by what comes after each of the two places, and the style at the second
pub record AreCutEnds (text : List ℕ) (start : ℕ) (end : Option ℕ) (first last : List ℕ) (last_style : Attributes) : Type 0 where
  pub behind : text ≡ joined (before_place start (pieces text)) ++ first
  pub slice : List ℕ
  pub sliced : first ≡ slice ++ last
  pub none_before : has_escape text ≡ false → has_escape (take (length text - length first) text) ≡ false
  pub spelled : (ps : List Piece) → ArePiecesOf text ps →
      sequences (before_place start (pieces text)) ++ (take (length first - length last) first ++ end_bytes last_style) ≡ cut_between start end ps
  pub plain : has_escape text ≡ false → last_style ≡ plain_attributes
  pub bare : has_escape (take (length text - length first) text) ≡ false → last_style ≡ plain_attributes → (ps : List Piece) → ArePiecesOf text ps →
      take (length first - length last) first ≡ cut_between start end ps
