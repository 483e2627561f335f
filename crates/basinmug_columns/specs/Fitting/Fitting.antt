-- What a text becomes in a number of columns that its widest line passes: its lines are cut, or wrapped between
-- words. A text is the list of its bytes.
use Rattle.std.specs.Prelude.{ℕ, ◌-◌, ◌==◌, nat_lt, not, Bool, true, List, [], ◌∷◌, ◌++◌, chars, codes, map, if◌then◌else◌}
use Rattle.std.specs.List.{filter, join_by, list_any}
use Rattle.ansi_scan.specs.Pieces.{pieces}
use Rattle.ansi_str.specs.StyledText.{strip}
use Rattle.grid_records_measure.specs.TextLines.{line_width, text_lines}
use Rattle.tabled_size_wrap.specs.Bytes.{cut_at, wrapped_text}

-- lines with a line feed between each two
abbrev pub joined_lines : List (List ℕ) → List ℕ
joined_lines lines = join_by (λ line. line) (codes "\n") lines

-- ---- cut

-- U+2026, which is after what is cut
abbrev pub ellipsis : List ℕ
ellipsis = 0xe2 ∷ 0x80 ∷ 0xa6 ∷ []

-- a line that is wider than so many columns: an ellipsis is the last of them; no columns have nothing
abbrev pub shortened : ℕ → List ℕ → List ℕ
shortened room line = if room == 0 then [] else cut_at (room - 1) line ++ ellipsis

-- a line that fits stays, and a wider one is cut
abbrev pub cut_line : ℕ → List ℕ → List ℕ
cut_line room line = if nat_lt room (line_width line) then shortened room line else line

abbrev pub cut_lines : ℕ → List ℕ → List ℕ
cut_lines room text = joined_lines (map (cut_line room) (text_lines text))

-- ---- wrapped between words

-- whether a line shows something but spaces
abbrev pub is_not_blank : List ℕ → Bool
is_not_blank line = list_any (λ c. not (c == 0x20)) (chars (strip (pieces line)))

abbrev pub line_if : Bool → List ℕ → List (List ℕ)
line_if seen line = if seen then line ∷ [] else []

-- a line wrapped between words; of the lines that it is wrapped into those that show something
abbrev pub wrapped_line : ℕ → List ℕ → List ℕ
wrapped_line room line = joined_lines (filter is_not_blank (text_lines (wrapped_text room true line)))

abbrev pub wrap_words : ℕ → List ℕ → List ℕ
wrap_words room text = joined_lines (map (wrapped_line room) (text_lines text))
