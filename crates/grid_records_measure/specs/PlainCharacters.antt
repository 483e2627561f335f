-- Characters whose columns add up.
use Rattle.std.specs.Prelude.{ℕ, Bool, ◌||◌, List, [], ◌∷◌}
use Rattle.std.specs.Int.{is_in_range}
use Rattle.std.specs.List.{list_any}

-- Unicode's blocks Basic Latin without its controls, the letters of Latin-1 Supplement, Latin Extended-A and -B, the
-- basic letters of Cyrillic, Box Drawing, and U+FFFD REPLACEMENT CHARACTER: each takes one column
abbrev pub one_column_ranges : List (ℕ × ℕ)
one_column_ranges =
    (0x20, 0x7e) ∷ (0xc0, 0x24f) ∷ (0x410, 0x44f) ∷ (0x2500, 0x257f) ∷ (0xfffd, 0xfffd) ∷ []

-- CJK Unified Ideographs and Emoticons: each takes two
abbrev pub two_column_ranges : List (ℕ × ℕ)
two_column_ranges = (0x4e00, 0x9fff) ∷ (0x1f600, 0x1f64f) ∷ []

abbrev pub is_in_ranges : List (ℕ × ℕ) → ℕ → Bool
is_in_ranges ranges c = list_any (λ range. is_in_range range.0 range.1 c) ranges

abbrev pub is_one_column : ℕ → Bool
is_one_column c = is_in_ranges one_column_ranges c

abbrev pub is_two_columns : ℕ → Bool
is_two_columns c = is_in_ranges two_column_ranges c

-- the characters whose columns add up in every text of them
abbrev pub is_plain_character : ℕ → Bool
is_plain_character c = is_one_column c || is_two_columns c
