-- The cut of a text at a width, as a function of the text: the one that meets the relation of the cut.
use Rattle.std.specs.Prelude.{ℕ, List, chars, if◌then◌else◌, nat_le}
use Rattle.ansi_scan.specs.Pieces.{pieces}
use Rattle.ansi_str.specs.StyledText.{strip}
use Rattle.grid_records_measure.specs.Cutting.{cut_bytes}
use Rattle.grid_records_measure.specs.Filling.{behind_front, fitting_front}
use Rattle.grid_records_measure.specs.TextLines.{text_width}

-- what the characters that fit take of it, and a replacement character for each column that is lacking
unfoldable pub cut_at : ℕ → List ℕ → List ℕ
cut_at width text =
    let characters = chars (strip (pieces text)) in
    cut_bytes width (pieces text) (fitting_front width 0 characters) (behind_front width 0 characters)

-- the text where it measures at most `width` columns, and else its cut
abbrev pub truncated_text : ℕ → List ℕ → List ℕ
truncated_text width text = if nat_le (text_width text) width then text else cut_at width text
