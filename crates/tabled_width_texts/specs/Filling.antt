-- Texts whose lines are filled up to a width.
use Rattle.std.specs.Prelude.{ℕ, ◌-◌, Bool, true, false, List, [], ◌∷◌, ◌++◌, Option, None, Some, chars, encode_utf8_all, if◌then◌else◌, map, nat_lt}
use Rattle.std.specs.List.{join_with_byte, repeat}
use Rattle.ansi_scan.specs.Pieces.{pieces}
use Rattle.ansi_str.specs.StyledText.{strip}
use Rattle.grid_records_measure.specs.Measures.{measure}
use Rattle.grid_records_measure.specs.TextLines.{line_feed, text_lines, text_width}

-- a line, and after its end as many fill characters as it measures less than the width
abbrev pub filled_line : ℕ → ℕ → List ℕ → List ℕ
filled_line width fill line = line ++ repeat (width - measure (chars (strip (pieces line)))) (encode_utf8_all (fill ∷ []))

-- a text that measures less than the width has its lines filled
abbrev pub filling : ℕ → ℕ → List ℕ → Option (List ℕ)
filling fill width text = if nat_lt (text_width text) width then Some (join_with_byte line_feed (map (filled_line width fill) (text_lines text))) else None

-- a line after others follows a line feed
abbrev pub separated : Bool → List ℕ → List ℕ
separated true line = line_feed ∷ line
separated false line = line
