-- Text that is taken away at both ends, where every sequence is kept.
use Rattle.std.specs.Prelude.{◌≡◌, ◌+◌, ◌-◌, ℕ, true, List, [], ◌∷◌, ◌++◌, length, if◌then◌else◌}
use Rattle.std.specs.Char.{is_not_whitespace}
use Rattle.std.specs.Str.{NoCharPasses, trim, trim_start}
use Rattle.ansi_scan.specs.Sequences.{Piece}
use Rattle.ansi_scan.specs.Joining.{is_text_kind}
use Rattle.ansi_str.specs.StyledText.{strip}
use Rattle.ansi_str.specs.Parts.{taken}

-- the text from place a to place b, with every sequence
abbrev pub kept : ℕ → ℕ → List Piece → List ℕ
kept a b pieces = taken (λ _. true) a b 0 pieces

-- without n bytes of text at the start, or at the end
abbrev pub without_front : ℕ → List Piece → List ℕ
without_front n pieces = kept n (length (strip pieces)) pieces

abbrev pub without_end : ℕ → List Piece → List ℕ
without_end n pieces = kept 0 (length (strip pieces) - n) pieces

-- the text is white space, then what Rust's `trim` leaves of it, from a to b, and then white space; `trim_start`
-- leaves the last two
pub record IsTrimmedAt (text : List ℕ) (a b : ℕ) : Type 0 where
  pub before : List ℕ
  pub behind : List ℕ
  pub parted : text ≡ before ++ (trim text ++ behind)
  pub started : trim_start text ≡ trim text ++ behind
  pub white_before : NoCharPasses is_not_whitespace before
  pub white_behind : NoCharPasses is_not_whitespace behind
  pub from : a ≡ length before
  pub to : b ≡ length before + length (trim text)

-- the bytes are the pieces without the white space at both ends of their text
abbrev pub IsTrimmed : List Piece → List ℕ → Type 0
IsTrimmed pieces bytes = (a : ℕ) × (b : ℕ) × IsTrimmedAt (strip pieces) a b × (bytes ≡ kept a b pieces)

-- the sequences among the pieces
abbrev pub sequences_among : List Piece → List Piece
sequences_among [] = []
sequences_among (piece ∷ pieces) = if is_text_kind piece.kind then sequences_among pieces else piece ∷ sequences_among pieces
