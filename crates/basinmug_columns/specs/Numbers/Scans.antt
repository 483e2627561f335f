-- What is read of a text from left to right, where each part is as long as it can be. The functions that read a
-- number say what they return by these definitions; that what is read is what the grammar says is shown in
-- `proofs/NumbersLemmas/Scanned.antt`.
use Rattle.std.specs.Prelude.{ℕ, ◌-◌, ◌%◌, ◌==◌, ◌&&◌, ◌||◌, not, Bool, false, List, [], ◌∷◌, drop, length, if◌then◌else◌}
use Rattle.std.specs.List.{enumerate_from, list_all, prefix_len, take_while}
use Rattle.std.specs.Char.{is_ascii_digit}
use Rattle.basinmug_columns.specs.Numbers.Numbers.{comma, is_exponent_mark, is_percent, is_point, is_sign}

abbrev pub is_digit_or_comma : ℕ → Bool
is_digit_or_comma byte = is_ascii_digit byte || byte == comma

-- ---- prefixes

abbrev pub first_byte_passes : (ℕ → Bool) → List ℕ → Bool
first_byte_passes test [] = false
first_byte_passes test (byte ∷ bytes) = test byte

-- what is left where a byte of a kind, if one is first, is taken
abbrev pub without_one : (ℕ → Bool) → List ℕ → List ℕ
without_one test bytes = if first_byte_passes test bytes then drop 1 bytes else bytes

-- what is left after the longest prefix of bytes of a kind
abbrev pub behind : (ℕ → Bool) → List ℕ → List ℕ
behind test bytes = drop (prefix_len test bytes) bytes

-- ---- numbers

-- counted from the end, each fourth byte is a comma, and each other a digit
abbrev pub are_in_groups : List ℕ → Bool
are_in_groups bytes =
    list_all (λ (placed : ℕ × ℕ). if (length bytes - placed.0) % 4 == 0 then placed.1 == comma else is_ascii_digit placed.1) (enumerate_from 0 bytes)

-- digits in groups of three, of which the first may have fewer
abbrev pub is_in_groups : List ℕ → Bool
is_in_groups bytes = not (length bytes % 4 == 0) && are_in_groups bytes

-- digits alone, or in groups
abbrev pub is_whole_part : List ℕ → Bool
is_whole_part bytes = list_all is_ascii_digit bytes || is_in_groups bytes

-- a percent sign, or nothing
abbrev pub is_percent_or_none : List ℕ → Bool
is_percent_or_none bytes = length (without_one is_percent bytes) == 0

-- an exponent, which has a digit, or none, and then an end
abbrev pub is_tail : List ℕ → Bool
is_tail bytes =
    if first_byte_passes is_exponent_mark bytes then
    (let power = without_one is_sign (drop 1 bytes) in first_byte_passes is_ascii_digit power && is_percent_or_none (behind is_ascii_digit power))
    else is_percent_or_none bytes

-- a point and a prefix of digits, or none, and then a tail; there is a digit, before the point or after it
abbrev pub is_fraction : Bool → List ℕ → Bool
is_fraction has_digits bytes =
    if first_byte_passes is_point bytes then
    (let digits = drop 1 bytes in (has_digits || first_byte_passes is_ascii_digit digits) && is_tail (behind is_ascii_digit digits))
    else has_digits && is_tail bytes

abbrev pub is_unsigned : List ℕ → Bool
is_unsigned bytes =
    let whole = take_while is_digit_or_comma bytes in
    is_whole_part whole && is_fraction (not (length whole == 0)) (behind is_digit_or_comma bytes)
