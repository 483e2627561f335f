-- The lines of a text, and what they measure.
use Rattle.std.specs.Prelude.{◌==◌, ℕ, Bool, max, List, [], ◌∷◌, chars, length, slice_index_or}
use Rattle.std.specs.List.{filter, range_with_len, slice_split}
use Rattle.ansi_scan.specs.Pieces.{pieces}
use Rattle.ansi_scan.specs.Sequences.{Piece}
use Rattle.ansi_str.specs.StyledText.{strip}
use Rattle.ansi_str.specs.Matches.{AreParts, split_bounds, styled_parts}
use Rattle.grid_records_measure.specs.Measures.{measure}

-- U+000A LINE FEED
abbrev pub line_feed : ℕ
line_feed = 0x0a

abbrev pub is_line_feed : ℕ → Bool
is_line_feed c = c == line_feed

-- the lines of a text: its parts when it is split at the line feed. There is one more than it has line feeds, and each
-- opens and ends its own styles
abbrev pub AreLinesOf : List Piece → List (List ℕ) → Type 0
AreLinesOf pieces lines = AreParts (line_feed ∷ []) pieces lines

-- where line feeds are in a text without sequences
abbrev pub line_feed_places : List ℕ → List ℕ
line_feed_places text = filter (λ at. is_line_feed (slice_index_or text at 0)) (range_with_len 0 (length text))

-- the lines of a text, as a function: its parts between the line feeds that it shows
unfoldable pub text_lines : List ℕ → List (List ℕ)
text_lines text =
    let shown = strip (pieces text) in styled_parts (pieces text) (split_bounds (line_feed ∷ []) shown (line_feed_places shown))

-- the lines that the text shows: the text without its sequences, split at each line feed
abbrev pub shown_lines : List Piece → List (List ℕ)
shown_lines pieces = slice_split is_line_feed (strip pieces)

-- what the bytes of a line without sequences measure
abbrev pub line_measure : List ℕ → ℕ
line_measure bytes = measure (chars bytes)

-- the columns of a text without its sequences, as one line
abbrev pub line_width : List ℕ → ℕ
line_width text = line_measure (strip (pieces text))

-- the greatest measure of some lines, 0 where there is none
abbrev pub widest : List (List ℕ) → ℕ
widest [] = 0
widest (line ∷ lines) = max (line_measure line) (widest lines)

-- the columns of the widest line of a text, and how many lines it has
unfoldable pub text_width : List ℕ → ℕ
text_width text = widest (shown_lines (pieces text))

unfoldable pub text_height : List ℕ → ℕ
text_height text = length (shown_lines (pieces text))
