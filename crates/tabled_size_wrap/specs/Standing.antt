-- Where a walk through a line is. By this the parts of `Wrapping` are written.
use Rattle.std.specs.Prelude.{◌≡◌, ℕ, zero, suc, List}
use Rattle.ansi_scan.specs.Sequences.{Piece, EachStands}
use Rattle.ansi_scan.specs.Pieces.{pieces as pieces_of}
use Rattle.ansi_scan.specs.Attributes.{Attributes, plain_attributes}
use Rattle.ansi_str.specs.StyledText.{style_after_all}
use Rattle.ansi_str.specs.Parts.{from_place, through_place}
use Rattle.ansi_str.specs.Walking.{from_text}

-- what comes after a place at which a line is split, and the style known there; the start is no such place
abbrev pub behind_wrap : ℕ → List Piece → List Piece
behind_wrap zero pieces = pieces
behind_wrap (suc n) pieces = from_text (from_place (suc n) pieces)

abbrev pub style_at_wrap : ℕ → List Piece → Attributes
style_at_wrap zero pieces = plain_attributes
style_at_wrap (suc n) pieces = style_after_all plain_attributes (through_place (suc n) pieces)

-- this text and this style are at a place of the line
pub record StandsAt (line : List Piece) (place : ℕ) (rest : List ℕ) (style : Attributes) : Type 0 where
  pub stand : EachStands line
  pub behind : pieces_of rest ≡ behind_wrap place line
  pub known : style ≡ style_at_wrap place line
