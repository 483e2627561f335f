-- How many columns characters and lines take.
use Rattle.std.specs.Prelude.{ℕ, Bool, false, List, max, unwrap_or}
use Rattle.std.specs.Int.{is_in_range}
use Rattle.std.specs.List.{list_all, sum_by}
use Rattle.unicode_width.specs.Width.{char_width, str_width}

-- the columns that `unicode_width` gives the characters as one text: Unicode Standard Annex 11 (East Asian Width),
-- outside an East Asian context, with that library's rules for characters that join
abbrev pub measure : List ℕ → ℕ
measure characters = str_width false characters

-- the columns that it gives one character by itself; a control character, which has none, takes 0
abbrev pub own_width : ℕ → ℕ
own_width c = unwrap_or (char_width false c) 0

-- what a character costs where a line is cut or wrapped: the larger of 1 and its own width
abbrev pub cost : ℕ → ℕ
cost c = max 1 (own_width c)

-- the cost of a line: the sum of what its characters cost
abbrev pub line_cost : List ℕ → ℕ
line_cost characters = sum_by cost characters

-- each byte is a printable ASCII character, which takes one column
abbrev pub are_printable : List ℕ → Bool
are_printable bytes = list_all (is_in_range 0x20 0x7E) bytes
