-- The parts of a split that are still to come, as a function of what is left of the text. By this function the
-- relation of `Matches` is proved.
use Rattle.std.specs.Prelude.{ℕ, zero, suc, ◌+◌, nat_eq, nat_lt, nat_le, Bool, true, false, ◌&&◌, ◌||◌, List, [], ◌∷◌, length, Option, None, Some, if◌then◌else◌}
use Rattle.std.specs.Option.{option_map}
use Rattle.std.specs.List.{starts_with}
use Rattle.ansi_scan.specs.Sequences.{Piece}
use Rattle.ansi_scan.specs.Attributes.{Attributes}
use Rattle.ansi_str_search.specs.Text.StyledText.{strip, style_after_all}
use Rattle.ansi_str_search.specs.Parts.{from_place, before_place, through_place, dressed}

-- a character begins with the first byte, or there is none
abbrev pub begins_character : List ℕ → Bool
begins_character [] = true
begins_character (b ∷ bs) = nat_lt b 128 || nat_le 192 b

-- the pattern is at the start
abbrev pub begins_with : List ℕ → List ℕ → Bool
begins_with pattern text = starts_with nat_eq text pattern

-- the pattern matches at the start
abbrev pub matches_first : List ℕ → List ℕ → Bool
matches_first pattern text = begins_character text && begins_with pattern text

-- how many bytes come before the first match that has at least n before it
unfoldable pub first_match : List ℕ → ℕ → List ℕ → Option ℕ
first_match pattern zero [] = if matches_first pattern [] then Some 0 else None
first_match pattern zero (b ∷ bs) =
    if matches_first pattern (b ∷ bs) then Some 0 else option_map (λ n. suc n) (first_match pattern zero bs)
first_match pattern (suc passed) [] = None
first_match pattern (suc passed) (b ∷ bs) = option_map (λ n. suc n) (first_match pattern passed bs)

-- how many bytes a match has at least before it, by whether it comes right after another one
abbrev pub passed_over : Bool → List ℕ → ℕ
passed_over false pattern = 0
passed_over true [] = 1
passed_over true (p ∷ ps) = 0

-- the part before the match, and the others after it; where there is no match, all
abbrev pub part_and_others : Attributes → List Piece → Option ℕ → (ℕ → List (List ℕ)) → List (List ℕ)
part_and_others style pieces None others = dressed style pieces ∷ []
part_and_others style pieces (Some at) others = dressed style (through_place at pieces) ∷ others at

-- the first parts, at most this many, of pieces before which this style is known; whether a match comes before them
unfoldable pub first_parts : ℕ → List ℕ → Bool → Attributes → List Piece → List (List ℕ)
first_parts zero pattern begun style pieces = []
first_parts (suc n) pattern begun style pieces =
    part_and_others style pieces (first_match pattern (passed_over begun pattern) (strip pieces)) (λ at.
    first_parts n pattern true (style_after_all style (before_place (at + length pattern) pieces)) (from_place (at + length pattern) pieces))

-- all parts; there are at most two more than bytes
unfoldable pub parts_left : List ℕ → Bool → Attributes → List Piece → List (List ℕ)
parts_left pattern begun style pieces = first_parts (length (strip pieces) + 2) pattern begun style pieces
