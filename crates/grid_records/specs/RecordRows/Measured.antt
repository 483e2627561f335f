-- A cell that keeps what its text measures, and its lines.
use Rattle.std.specs.Prelude.{◌≡◌, ◌∷◌, [], List, None, Option, Some, false, map, string_bytes, ℕ}
use Rattle.std.specs.declared.boxed.Box.{Box}
use Rattle.ansi_str_search.specs.Matches.{split_bounds}
use Rattle.grid_records_measure.specs.StyledText.{has_escape}
use Rattle.grid_records_measure.specs.TextLines.{line_feed, line_feed_places, text_lines}
use Rattle.grid_records.specs.declared.rows.records.vec_records.text.Text.TheInside.{Inside}
use Rattle.grid_records.specs.declared.rows.records.vec_records.text.kept_lines.KeptLines.{KeptLines}
use Rattle.grid_records.specs.declared.rows.records.vec_records.text.kept_lines.KeptLines.TheVariants.{Places, Texts}
use Rattle.grid_records_traits.specs.Cells.{HasWidth}

-- where the lines of a text without sequences begin and end
abbrev pub bounds_of_lines : List ℕ → List (ℕ × ℕ)
bounds_of_lines text = split_bounds (line_feed ∷ []) text (line_feed_places text)

-- the places are those of the line feeds of a text without sequences, or the texts are its lines
abbrev pub AreLinesKept : List ℕ → KeptLines → Type 0
AreLinesKept text (Places places) = (has_escape text ≡ false) × (places.items ≡ line_feed_places text)
AreLinesKept text (Texts lines) = map string_bytes lines.items ≡ text_lines text

-- its lines are kept, or nothing where it is its only line
abbrev pub AreKept : {Z : Type 0} → List ℕ → Option (Box KeptLines Z) → Type 0
AreKept text None = text_lines text ≡ text ∷ []
AreKept text (Some lines) = AreLinesKept text lines.value

-- it keeps its lines, and the columns of the widest
abbrev pub IsMeasured : Inside → Type 0
IsMeasured fields = AreKept (string_bytes fields.text) fields.lines × HasWidth (string_bytes fields.text) fields.width
