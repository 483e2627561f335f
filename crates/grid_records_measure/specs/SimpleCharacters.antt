-- Characters that join nothing after them, so that they add their columns to those of whatever text is before them
-- (Unicode Standard Annex 11).
use Rattle.std.specs.Prelude.{ℕ, zero, suc, ◌+◌, ◌-◌, ◌*◌, ◌≤◌, Bool, List, [], ◌∷◌}
use Rattle.grid_records_measure.specs.PlainCharacters.{is_in_ranges}

-- Combining Diacritical Marks but U+0338, the marks of Cyrillic, and those of Devanagari and Thai above and below: none
-- takes a column
abbrev pub mark_ranges : List (ℕ × ℕ)
mark_ranges =
    (0x300, 0x337) ∷ (0x339, 0x36f) ∷ (0x483, 0x489) ∷ (0x93c, 0x93c) ∷ (0x941, 0x948) ∷ (0x94d, 0x94d) ∷ (0xe31, 0xe31) ∷ (0xe34, 0xe3a)
    ∷ (0xe47, 0xe4e) ∷ []

-- the letters of Latin-1 Supplement, Latin Extended-A and -B, IPA Extensions and Spacing Modifier Letters, Greek and
-- Coptic, Cyrillic and its Supplement; letters, and marks beside them, of Devanagari and Thai; dashes, quotation marks,
-- dots and bullets
abbrev pub high_letter_ranges : List (ℕ × ℕ)
high_letter_ranges =
    (0xc0, 0x2ff) ∷ (0x370, 0x482) ∷ (0x48a, 0x52f) ∷ (0x903, 0x939) ∷ (0x93d, 0x940) ∷ (0xe01, 0xe30) ∷ (0xe32, 0xe33) ∷ (0xe40, 0xe46)
    ∷ (0x2010, 0x2027) ∷ []

-- with printable ASCII: each takes one
abbrev pub letter_ranges : List (ℕ × ℕ)
letter_ranges = (0x20, 0x7e) ∷ high_letter_ranges

-- marks and brackets of CJK, Hiragana and Katakana without the marks between them, most of CJK Unified Ideographs
-- Extension A with the hexagrams after it, CJK Unified Ideographs, Hangul Syllables but the last, and fullwidth forms:
-- each takes two
abbrev pub ideogram_ranges : List (ℕ × ℕ)
ideogram_ranges =
    (0x3001, 0x3029) ∷ (0x3041, 0x3096) ∷ (0x30a0, 0x30ff) ∷ (0x4000, 0x9fff) ∷ (0xac00, 0xd77f) ∷ (0xff01, 0xff60) ∷ []

-- the characters that take so many columns
abbrev pub ranges_of : ℕ → List (ℕ × ℕ)
ranges_of zero = mark_ranges
ranges_of (suc zero) = letter_ranges
ranges_of (suc (suc zero)) = ideogram_ranges
ranges_of (suc (suc (suc n))) = []

-- whether the character takes so many columns, before any text
abbrev pub takes : ℕ → ℕ → Bool
takes c columns = is_in_ranges (ranges_of columns) c

-- the character of two bytes, and of three (RFC 3629)
abbrev pub of_two : ℕ → ℕ → ℕ
of_two lead last = (lead - 0xC0) * 64 + (last - 0x80)

abbrev pub of_three : ℕ → ℕ → ℕ → ℕ
of_three lead middle last = ((lead - 0xE0) * 64 + (middle - 0x80)) * 64 + (last - 0x80)

-- the two bytes are those of a character, and so are the three (RFC 3629)
pub record AreOfTwo (lead last : ℕ) : Type 0 where
  pub begins : (0xC2 ≤ lead) × (lead ≤ 0xDF)
  pub goes_on : (0x80 ≤ last) × (last ≤ 0xBF)

pub record AreOfThree (lead middle last : ℕ) : Type 0 where
  pub begins : (0xE0 ≤ lead) × (lead ≤ 0xEF)
  pub goes_on : (0x80 ≤ middle) × (middle ≤ 0xBF) × (0x80 ≤ last) × (last ≤ 0xBF)
  pub shortest : 0x800 ≤ of_three lead middle last
