-- The encoding that bytes may have which are no UTF-8, and the way out.
use Rattle.std.specs.Prelude.{◌==◌, ◌&&◌, ◌||◌, ℕ, Bool, List, [], ◌∷◌, codes, if◌then◌else◌}
use Rattle.basinmug.specs.declared.encoding.Encoding.{Encoding}
use Rattle.basinmug.specs.declared.encoding.Encoding.TheVariants.{Utf16, Utf32, Windows1252}

-- U+FEFF BYTE ORDER MARK in UTF-16, in either order of bytes (The Unicode Standard, section 23.8)
abbrev pub begins_utf16 : ℕ → ℕ → Bool
begins_utf16 a b = ((a == 0xff) && (b == 0xfe)) || ((a == 0xfe) && (b == 0xff))

-- the same mark in UTF-32
abbrev pub begins_utf32 : ℕ → ℕ → ℕ → ℕ → Bool
begins_utf32 a b c d = ((a == 0xff) && ((b == 0xfe) && ((c == 0) && (d == 0)))) || ((a == 0) && ((b == 0) && ((c == 0xfe) && (d == 0xff))))

-- UTF-16 where its mark is at the start; else a guess
abbrev pub encoding_of_two : ℕ → ℕ → Encoding
encoding_of_two a b = if begins_utf16 a b then Utf16 else Windows1252

-- UTF-32 where its mark is at the start, which in one order of bytes begins as a mark of UTF-16; else what the first two
-- bytes say
abbrev pub encoding_of : List ℕ → Encoding
encoding_of [] = Windows1252
encoding_of (a ∷ []) = Windows1252
encoding_of (a ∷ b ∷ []) = encoding_of_two a b
encoding_of (a ∷ b ∷ c ∷ []) = encoding_of_two a b
encoding_of (a ∷ b ∷ c ∷ d ∷ rest) = if begins_utf32 a b c d then Utf32 else encoding_of_two a b

-- what is printed of it
abbrev pub encoding_text : Encoding → List ℕ
encoding_text Utf16 = codes "UTF-16: iconv -f UTF-16 -t UTF-8"
encoding_text Utf32 = codes "UTF-32: iconv -f UTF-32 -t UTF-8"
encoding_text Windows1252 = codes "perhaps WINDOWS-1252: iconv -f WINDOWS-1252 -t UTF-8"
