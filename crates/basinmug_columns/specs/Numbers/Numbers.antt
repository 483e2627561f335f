-- Which texts are numbers, as people write them in tables: a sign or none; digits, with commas between groups of
-- three or without, and then a point and any digits, or none; or a point and digits alone; an exponent or none; a
-- percent sign or none. A number is these parts one after the other. A text is the list of its bytes.
use Rattle.std.specs.Prelude.{ℕ, zero, suc, ◌==◌, ◌&&◌, ◌||◌, not, Bool, true, false, List, [], ◌∷◌}
use Rattle.std.specs.List.{list_all}
use Rattle.std.specs.Char.{is_ascii_digit}

-- ---- bytes

abbrev pub comma : ℕ
comma = 0x2c

abbrev pub is_sign : ℕ → Bool
is_sign byte = byte == 0x2b || byte == 0x2d

abbrev pub is_point : ℕ → Bool
is_point byte = byte == 0x2e

-- `e` or `E`
abbrev pub is_exponent_mark : ℕ → Bool
is_exponent_mark byte = byte == 0x65 || byte == 0x45

abbrev pub is_percent : ℕ → Bool
is_percent byte = byte == 0x25

-- ---- texts and their parts

abbrev pub is_empty : List ℕ → Bool
is_empty [] = true
is_empty (byte ∷ bytes) = false

-- one byte of a kind
abbrev pub is_one : (ℕ → Bool) → List ℕ → Bool
is_one kind [] = false
is_one kind (byte ∷ bytes) = kind byte && is_empty bytes

abbrev pub or_nothing : (List ℕ → Bool) → List ℕ → Bool
or_nothing part text = is_empty text || part text

-- a text that can be cut into the one part and the other after it
abbrev pub followed_by : (List ℕ → Bool) → (List ℕ → Bool) → List ℕ → Bool
followed_by front behind [] = front [] && behind []
followed_by front behind (byte ∷ bytes) = (front [] && behind (byte ∷ bytes)) || followed_by (λ more. front (byte ∷ more)) behind bytes

-- ---- numbers

-- any number of digits
abbrev pub are_digits : List ℕ → Bool
are_digits text = list_all is_ascii_digit text

-- one digit or more
abbrev pub is_digits : List ℕ → Bool
is_digits text = not (is_empty text) && are_digits text

-- so many digits, and after them any number of groups, each a comma and three digits
abbrev pub is_before_groups : ℕ → List ℕ → Bool
is_before_groups zero [] = true
is_before_groups (suc digits) [] = false
is_before_groups zero (byte ∷ bytes) = byte == comma && is_before_groups 3 bytes
is_before_groups (suc digits) (byte ∷ bytes) = is_ascii_digit byte && is_before_groups digits bytes

-- digits in groups of three, of which the first may have one or two
abbrev pub is_grouped : List ℕ → Bool
is_grouped text = is_before_groups 1 text || is_before_groups 2 text || is_before_groups 3 text

-- `1234` or `1,234`
abbrev pub is_whole : List ℕ → Bool
is_whole text = is_digits text || is_grouped text

-- `1234.5`, `1234.`, `1234` or `.5`
abbrev pub is_mantissa : List ℕ → Bool
is_mantissa text = followed_by is_whole (or_nothing (followed_by (is_one is_point) are_digits)) text || followed_by (is_one is_point) is_digits text

abbrev pub is_sign_or_none : List ℕ → Bool
is_sign_or_none = or_nothing (is_one is_sign)

-- `e6`, `E-6` or `e+6`
abbrev pub is_exponent : List ℕ → Bool
is_exponent = followed_by (is_one is_exponent_mark) (followed_by is_sign_or_none is_digits)

-- an exponent or none, and then a percent sign or none
abbrev pub is_end : List ℕ → Bool
is_end = followed_by (or_nothing is_exponent) (or_nothing (is_one is_percent))

abbrev pub is_number : List ℕ → Bool
is_number = followed_by is_sign_or_none (followed_by is_mantissa is_end)
