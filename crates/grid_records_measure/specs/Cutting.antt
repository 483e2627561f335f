-- The cut of a text at a width.
use Rattle.std.specs.Prelude.{◌≡◌, ◌≤◌, ◌<◌, ◌-◌, ℕ, false, List, [], ◌∷◌, ◌++◌, length, map, replicate, take, chars, encode_utf8_all}
use Rattle.std.specs.List.{slice_split}
use Rattle.ansi_scan.specs.Sequences.{Piece}
use Rattle.ansi_scan.specs.Attributes.{plain_attributes}
use Rattle.ansi_str.specs.StyledText.{IsClosed, has_escape, strip, styled}
use Rattle.ansi_str.specs.Cuts.{cut_part}
use Rattle.grid_records_measure.specs.Measures.{line_cost}
use Rattle.grid_records_measure.specs.TextLines.{is_line_feed}

-- the lines of some characters
abbrev pub lines_of : List ℕ → List (List ℕ)
lines_of characters = slice_split is_line_feed characters

-- each line but the last costs less than this width, and the last one at most this width
abbrev pub LinesFit : ℕ → List (List ℕ) → Type 0
LinesFit width [] = Unit {0}
LinesFit width (line ∷ []) = line_cost line ≤ width
LinesFit width (line ∷ next ∷ lines) = (line_cost line < width) × LinesFit width (next ∷ lines)

abbrev pub Fits : ℕ → List ℕ → Type 0
Fits width characters = LinesFit width (lines_of characters)

-- the longest prefix of the characters that fits, and what is left after it
pub record IsLongestFront (width : ℕ) (characters kept left : List ℕ) : Type 0 where
  pub parted : characters ≡ kept ++ left
  pub fits : Fits width kept
  pub longest : (other more : List ℕ) → characters ≡ other ++ more → Fits width other → length other ≤ length kept

-- the last of some lines
abbrev pub last_of : List (List ℕ) → List ℕ
last_of [] = []
last_of (line ∷ []) = line
last_of (line ∷ next ∷ lines) = last_of (next ∷ lines)

-- the columns that the last line lacks, where characters are left
abbrev pub lacking : ℕ → List ℕ → List ℕ → ℕ
lacking width kept [] = 0
lacking width kept (c ∷ left) = width - line_cost (last_of (lines_of kept))

-- U+FFFD REPLACEMENT CHARACTER
abbrev pub replacement : ℕ
replacement = 0xfffd

-- the cut of a text after the characters that are kept, and without style a replacement character for each
-- column that is lacking
abbrev pub cut_bytes : ℕ → List Piece → List ℕ → List ℕ → List ℕ
cut_bytes width pieces kept left =
    cut_part 0 (length (encode_utf8_all kept)) pieces ++ encode_utf8_all (replicate (lacking width kept left) replacement)

-- the bytes are the cut of a text at a width
abbrev pub IsCutAt : ℕ → List Piece → List ℕ → Type 0
IsCutAt width pieces bytes =
    (kept : List ℕ) × (left : List ℕ) × IsLongestFront width (chars (strip pieces)) kept left × (bytes ≡ cut_bytes width pieces kept left)

-- the text has no ESC, and its cut lacks no column
pub record CutIsFront (width : ℕ) (text : List ℕ) : Type 0 where
  pub plain : has_escape text ≡ false
  pub kept : List ℕ
  pub left : List ℕ
  pub longest : IsLongestFront width (chars text) kept left
  pub none_lacking : lacking width kept left ≡ 0

-- the pieces show the characters that are kept in the styles that they have in the text, and then replacement
-- characters in the plain style; and they are closed
pub record ShowsCut (width : ℕ) (text cut : List Piece) : Type 0 where
  pub kept : List ℕ
  pub left : List ℕ
  pub longest : IsLongestFront width (chars (strip text)) kept left
  pub shown : styled cut ≡ take (length kept) (styled text) ++ map (λ c. (c, plain_attributes)) (replicate (lacking width kept left) replacement)
  pub closed : IsClosed cut
