-- How a text is escaped: controls, quotes and the backslash, as in a literal of Rust. A text is the list of its bytes.
use Rattle.std.specs.Prelude.{ℕ, ◌+◌, ◌/◌, ◌%◌, ◌==◌, ◌&&◌, ◌||◌, nat_lt, Bool, List, [], ◌∷◌, ◌++◌, Option, Some, None, chars, codes, encode_utf8, flat_map, if◌then◌else◌}

-- a digit of lower hexadecimal
abbrev pub hex_digit : ℕ → ℕ
hex_digit n = if nat_lt n 10 then 0x30 + n else 0x57 + n

-- a number below 256 in lower hexadecimal, without a leading 0
abbrev pub hex : ℕ → List ℕ
hex n = if nat_lt n 16 then hex_digit n ∷ [] else hex_digit (n / 16) ∷ hex_digit (n % 16) ∷ []

-- U+0000 to U+001F, and U+007F to U+009F
abbrev pub is_control : ℕ → Bool
is_control c = nat_lt c 0x20 || (nat_lt 0x7e c && nat_lt c 0xa0)

-- the escapes of characters that have one of their own
abbrev pub own_escape : ℕ → Option (List ℕ)
own_escape c =
    if c == 0 then Some (codes "\\0")
    else if c == 0x09 then Some (codes "\\t")
    else if c == 0x0d then Some (codes "\\r")
    else if c == 0x0a then Some (codes "\\n")
    else if c == 0x27 then Some (codes "\\'")
    else if c == 0x22 then Some (codes "\\\"")
    else if c == 0x5c then Some (codes "\\\\")
    else None

-- any other control is escaped by its number, and all else stays
abbrev pub numbered : ℕ → List ℕ
numbered c = if is_control c then codes "\\u{" ++ (hex c ++ codes "}") else encode_utf8 c

abbrev pub own_or_numbered : Option (List ℕ) → ℕ → List ℕ
own_or_numbered (Some escape) c = escape
own_or_numbered None c = numbered c

abbrev pub escaped_char : ℕ → List ℕ
escaped_char c = own_or_numbered (own_escape c) c

-- a text, each of its characters escaped
abbrev pub escaped : List ℕ → List ℕ
escaped text = flat_map escaped_char (chars text)
