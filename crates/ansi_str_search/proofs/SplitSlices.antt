-- The parts of a split begin and end where characters do, and show the slices of the styled characters.
use Rattle.std.proofs.Common.{◌≡◌, ℕ, ◌≤◌, All, List, length, map, ◌∙◌, arith}
use Rattle.std.specs.List.{AllByRecursion}
use Rattle.std.specs.Str.{IsUtf8, IsCharBoundary}
use Rattle.std.proofs.lemmas.List.Elements.{All-from_recursion}
use Rattle.std.proofs.lemmas.Simd.{map-map}
use Rattle.std.proofs.lemmas.Str.{IsCharBoundary-start, IsCharBoundary-end}
use Rattle.ansi_scan.specs.Sequences.{Piece, ArePiecesOf, NoneBroken}
use Rattle.ansi_scan.specs.Pieces.{pieces}
use Rattle.ansi_scan.proofs.Existence.{ArePiecesOf-pieces}
use Rattle.ansi_str_search.specs.Text.StyledText.{strip, styled}
use Rattle.ansi_str_search.proofs.TextLemmas.Utf8Pieces.{IsUtf8-stripped}
use Rattle.ansi_str_search.specs.Parts.{split_part}
use Rattle.ansi_str_search.specs.Matches.{AreMatches, split_bounds, styled_parts, IsCutBetweenCharacters, styled_slice}
use Rattle.ansi_str_search.proofs.AllParts.{map-same}
use Rattle.ansi_str_search.proofs.CharSlices.{styled-slice}
use Rattle.ansi_str_search.proofs.Utf8.{bounds-hold, boundary-behind_match}

-- what holds of each two places between characters, the first not after the second, holds of the ends of each part
pub bounds-between_characters : (P : (ℕ × ℕ) → Type 0) (pattern text matches : List ℕ) → IsUtf8 text → IsUtf8 pattern → AreMatches pattern text matches
    → ((a b : ℕ) → a ≤ b → IsCharBoundary text a → IsCharBoundary text b → P (a, b)) → AllByRecursion P (split_bounds pattern text matches)
bounds-between_characters P pattern text matches utf8 pattern_utf8 are each =
    let start : 0 ≤ length text = omega arith in
    let same : 0 ≤ 0 = omega arith in
    bounds-hold P (IsCharBoundary text) pattern text each
    (λ at occurs. (occurs.boundary, boundary-behind_match pattern text at pattern_utf8 utf8 occurs))
    (IsCharBoundary-end text) 0 0 matches start same (IsCharBoundary-start text utf8) are

pub All-between_characters : (pattern text matches : List ℕ) → IsUtf8 text → IsUtf8 pattern → AreMatches pattern text matches
    → All (IsCutBetweenCharacters text) (split_bounds pattern text matches)
All-between_characters pattern text matches utf8 pattern_utf8 are =
    All-from_recursion (IsCutBetweenCharacters text) (split_bounds pattern text matches)
    (bounds-between_characters (IsCutBetweenCharacters text) pattern text matches utf8 pattern_utf8 are (λ a b ordered first last. (first, last)))

pub styled-parts : (pattern text : List ℕ) (ps : List Piece) (matches : List ℕ) → IsUtf8 text → IsUtf8 pattern
    → ArePiecesOf text ps → NoneBroken ps → AreMatches pattern (strip ps) matches
    → map (λ part. styled (pieces part)) (styled_parts ps (split_bounds pattern (strip ps) matches))
    ≡ map (λ bound. styled_slice ps bound.0 bound.1) (split_bounds pattern (strip ps) matches)
styled-parts pattern text ps matches utf8 pattern_utf8 of_text whole are =
    let bounds = split_bounds pattern (strip ps) matches in
    let shown = λ (bound : ℕ × ℕ). styled (pieces (split_part bound.0 bound.1 ps)) in
    let slice = λ (bound : ℕ × ℕ). styled_slice ps bound.0 bound.1 in
    map-map (λ part. styled (pieces part)) (λ bound. split_part bound.0 bound.1 ps) bounds
    ∙ map-same (λ bound. shown bound ≡ slice bound) shown slice bounds (λ bound same. same)
    (bounds-between_characters (λ bound. shown bound ≡ slice bound) pattern (strip ps) matches (IsUtf8-stripped text ps utf8 of_text) pattern_utf8 are
    (λ a b ordered first last. styled-slice text ps (pieces (split_part a b ps)) a b ordered utf8 of_text whole first last (ArePiecesOf-pieces (split_part a b ps))))
