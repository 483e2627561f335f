-- What may come before the records of a text.
use Rattle.std.specs.Prelude.{◌==◌, ◌&&◌, ℕ, Bool, false, true, not, nat_lt, List, [], ◌∷◌, Option, None, Some, if◌then◌else◌}
use Rattle.basinmug_delimiter.specs.Bytes.{carriage_return, is_line_end, line_feed, quote}

-- U+FEFF BYTE ORDER MARK in UTF-8
abbrev pub is_mark : ℕ → ℕ → ℕ → Bool
is_mark a b c = (a == 0xef) && ((b == 0xbb) && (c == 0xbf))

-- the text of bytes: what is after a byte order mark, if they begin with one
abbrev pub text_after_mark : List ℕ → List ℕ
text_after_mark [] = []
text_after_mark (a ∷ []) = a ∷ []
text_after_mark (a ∷ b ∷ []) = a ∷ b ∷ []
text_after_mark (a ∷ b ∷ c ∷ rest) = if is_mark a b c then rest else a ∷ b ∷ c ∷ rest

-- whether bytes show if a mark is at the start, whatever comes after them: they are no beginning of it that lacks bytes
abbrev pub tells_mark : List ℕ → Bool
tells_mark [] = false
tells_mark (a ∷ []) = not (a == 0xef)
tells_mark (a ∷ b ∷ []) = not ((a == 0xef) && (b == 0xbb))
tells_mark (a ∷ b ∷ c ∷ rest) = true

-- `sep=`
abbrev pub begins_naming : ℕ → ℕ → ℕ → ℕ → Bool
begins_naming a b c d = (a == 0x73) && ((b == 0x65) && ((c == 0x70) && (d == 0x3d)))

-- ASCII, but no quote, line feed or carriage return
abbrev pub can_delimit : ℕ → Bool
can_delimit byte = nat_lt byte 0x80 && (not (byte == quote) && (not (byte == line_feed) && not (byte == carriage_return)))

-- a line ends before these bytes
abbrev pub ends_line : List ℕ → Bool
ends_line [] = true
ends_line (byte ∷ rest) = is_line_end byte

-- the byte that a first line `sep=C` names, as spreadsheets write it
abbrev pub named_delimiter : List ℕ → Option ℕ
named_delimiter [] = None
named_delimiter (a ∷ []) = None
named_delimiter (a ∷ b ∷ []) = None
named_delimiter (a ∷ b ∷ c ∷ []) = None
named_delimiter (a ∷ b ∷ c ∷ d ∷ []) = None
named_delimiter (a ∷ b ∷ c ∷ d ∷ byte ∷ rest) =
    if begins_naming a b c d && (can_delimit byte && ends_line rest) then Some byte else None
