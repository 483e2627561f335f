-- Texts that stay as they are where they are wrapped: a test that is read off them, without wrapping them.
use Rattle.std.specs.Prelude.{ℕ, Bool, ◌&&◌, ◌||◌, not, List, chars, nat_le, nat_lt}
use Rattle.std.specs.List.{list_all}
use Rattle.std.specs.Str.{is_utf8}
use Rattle.ansi_scan.specs.Pieces.{pieces}
use Rattle.ansi_str.specs.StyledText.{has_escape}
use Rattle.grid_records_measure.specs.Measures.{line_cost}
use Rattle.grid_records_measure.specs.PlainCharacters.{is_plain_character}
use Rattle.grid_records_measure.specs.TextLines.{shown_lines}

-- a line in UTF-8 whose characters cost at most the width. Where words are kept they are plain ones, so that
-- a word measures what they cost
abbrev pub line_stays : Bool → ℕ → List ℕ → Bool
line_stays keep_words width line =
    is_utf8 line && (nat_le (line_cost (chars line)) width && (not keep_words || list_all is_plain_character (chars line)))

-- at a width of at least 1, a text without ESC of such lines
abbrev pub stays : Bool → ℕ → List ℕ → Bool
stays keep_words width text = nat_lt 0 width && (not (has_escape text) && list_all (line_stays keep_words width) (shown_lines (pieces text)))
