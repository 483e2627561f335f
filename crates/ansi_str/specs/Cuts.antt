-- Cuts of a text, and its parts between places at which it is split.
use Rattle.std.specs.Prelude.{◌≡◌, ◌≤◌, ℕ, false, ◌&&◌, nat_lt, nat_le, All, List, [], ◌∷◌, length, slice_range, Option, IfSome, unwrap_or}
use Rattle.std.specs.List.Sorted.{IsStrictlyIncreasing}
use Rattle.std.specs.Str.{IsCharBoundary}
use Rattle.ansi_scan.specs.Sequences.{Piece}
use Rattle.ansi_scan.specs.Attributes.{Attributes}
use Rattle.ansi_str.specs.StyledText.{IsClosed, strip, styled}
use Rattle.ansi_str.specs.Parts.{IsGoodBound, part}

-- the cut from place a to place b: the text between them, with all sequences placed at or before b
abbrev pub cut_part : ℕ → ℕ → List Piece → List ℕ
cut_part a b pieces = part (λ place. false) (λ place. nat_le place b) a b pieces

-- the cut from a start to an end, and to the end of the text where there is none
abbrev pub cut_between : ℕ → Option ℕ → List Piece → List ℕ
cut_between start end pieces = cut_part start (unwrap_or end (length (strip pieces))) pieces

-- a later part at places, from place a to place b. It begins with the style after the
-- sequences placed at or before a, and holds those placed after a and at or before b
abbrev pub later_part : ℕ → ℕ → List Piece → List ℕ
later_part a b pieces =
    part (λ place. nat_le place a) (λ place. nat_lt a place && nat_le place b) a b pieces

-- the parts after place a, of a text that is split at these places
abbrev pub parts_behind : ℕ → List ℕ → List Piece → List (List ℕ)
parts_behind a [] pieces = later_part a (length (strip pieces)) pieces ∷ []
parts_behind a (b ∷ places) pieces = later_part a b pieces ∷ parts_behind b places pieces

-- the parts of a text that is split at these places: the first is a cut, and each other one begins after a place
abbrev pub parts_at : List ℕ → List Piece → List (List ℕ)
parts_at [] pieces = cut_part 0 (length (strip pieces)) pieces ∷ []
parts_at (b ∷ places) pieces = cut_part 0 b pieces ∷ parts_behind b places pieces

-- a part of a text shows these characters, each in its style, and is closed. Without its sequences it
-- is the slice of the text without its own, from place a to place b
pub record ShowsSlice (of_part pieces : List Piece) (a b : ℕ) (characters : List (ℕ × Attributes)) : Type 0 where
  pub shown : styled of_part ≡ characters
  pub closed : IsClosed of_part
  pub stripped : strip of_part ≡ slice_range (strip pieces) a b

-- a start, and an end that may be missing, between which a text can be cut
pub record AreGoodBounds (text : List ℕ) (start : ℕ) (end : Option ℕ) : Type 0 where
  pub ordered : IfSome end (λ at. start ≤ at)
  pub start_good : IsGoodBound text start
  pub end_good : IfSome end (IsGoodBound text)

-- places at which a text can be split
pub record AreSplitPlaces (text places : List ℕ) : Type 0 where
  pub rise : IsStrictlyIncreasing places
  pub boundaries : All (IsCharBoundary text) places
