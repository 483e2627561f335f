-- Where a pattern matches in a text, and the parts that the matches leave, as Rust's `str::split` has them.
use Rattle.std.specs.Prelude.{◌≡◌, ◌<◌, ◌≤◌, ℕ, ◌+◌, max, List, [], ◌∷◌, ◌++◌, chars, length, take, drop, map, slice_range}
use Rattle.std.specs.Str.{IsCharBoundary}
use Rattle.ansi_scan.specs.Sequences.{Piece}
use Rattle.ansi_scan.specs.Attributes.{Attributes}
use Rattle.ansi_str_search.specs.Text.StyledText.{strip, styled}
use Rattle.ansi_str_search.specs.Parts.{split_part}

-- the pattern is in the text at this place, where a character begins or the text ends
pub record Occurs (pattern text : List ℕ) (at : ℕ) : Type 0 where
  pub behind : List ℕ
  pub stands : drop at text ≡ pattern ++ behind
  pub boundary : IsCharBoundary text at

-- of the places from `from` on, the pattern first occurs at this one
pub record IsFirstMatch (pattern text : List ℕ) (from at : ℕ) : Type 0 where
  pub not_before : from ≤ at
  pub occurs : Occurs pattern text at
  pub first : (other : ℕ) → from ≤ other → other < at → ¬ (Occurs pattern text other)

-- where the next match is looked for: after the bytes of a match, and after one more where the pattern is
-- empty. So matches do not overlap, and no two are at one place
abbrev pub behind_match : List ℕ → ℕ → ℕ
behind_match pattern at = at + max 1 (length pattern)

-- the places of the matches from `from` on, from left to right
abbrev pub AreMatchesFrom : List ℕ → List ℕ → ℕ → List ℕ → Type 0
AreMatchesFrom pattern text from [] = (at : ℕ) → from ≤ at → ¬ (Occurs pattern text at)
AreMatchesFrom pattern text from (at ∷ others) =
    IsFirstMatch pattern text from at × AreMatchesFrom pattern text (behind_match pattern at) others

abbrev pub AreMatches : List ℕ → List ℕ → List ℕ → Type 0
AreMatches pattern text matches = AreMatchesFrom pattern text 0 matches

-- where each part begins and ends, from place `from` to place `end`, between matches of `size` bytes
abbrev pub bounds_between : ℕ → ℕ → ℕ → List ℕ → List (ℕ × ℕ)
bounds_between size from end [] = (from, end) ∷ []
bounds_between size from end (at ∷ others) = (from, at) ∷ bounds_between size (at + size) end others

-- where the parts of a text begin and end
abbrev pub split_bounds : List ℕ → List ℕ → List ℕ → List (ℕ × ℕ)
split_bounds pattern text matches = bounds_between (length pattern) 0 (length text) matches

-- the parts of a text without sequences
abbrev pub text_parts : List ℕ → List (ℕ × ℕ) → List (List ℕ)
text_parts text bounds = map (λ bound. slice_range text bound.0 bound.1) bounds

-- the parts of styled text
abbrev pub styled_parts : List Piece → List (ℕ × ℕ) → List (List ℕ)
styled_parts pieces bounds = map (λ bound. split_part bound.0 bound.1 pieces) bounds

-- the parts between the matches of the pattern are these
pub record AreParts (pattern : List ℕ) (pieces : List Piece) (parts : List (List ℕ)) : Type 0 where
  pub matches : List ℕ
  pub are_matches : AreMatches pattern (strip pieces) matches
  pub are_parts : parts ≡ styled_parts pieces (split_bounds pattern (strip pieces) matches)

-- a character of the text begins, or the text ends, where a part begins and where it ends
abbrev pub IsCutBetweenCharacters : List ℕ → (ℕ × ℕ) → Type 0
IsCutBetweenCharacters text bound = IsCharBoundary text bound.0 × IsCharBoundary text bound.1

-- the characters that pieces show from place a to place b, each with its style. As many are passed over as
-- come before a, and the last is the last one before b
abbrev pub styled_slice : List Piece → ℕ → ℕ → List (ℕ × Attributes)
styled_slice pieces a b =
    slice_range (styled pieces) (length (chars (take a (strip pieces)))) (length (chars (take b (strip pieces))))
