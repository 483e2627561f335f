-- Which byte the first line chooses.
use Rattle.std.specs.Prelude.{◌∷◌, ℕ, Bool, List, [], Option, None, Some, find, if◌then◌else◌, nat_le, nat_lt}
use Rattle.std.specs.List.{list_all}
use Rattle.basinmug_delimiter.specs.Bytes.{bar, comma, semicolon, tab}
use Rattle.basinmug_delimiter.specs.Counting.{counts_of}
use Rattle.basinmug_delimiter.specs.Places.{outside}
use Rattle.basinmug_delimiter.specs.declared.counts.Counts.{Counts}

-- bytes and how often each is there
abbrev Rows : Type 0
Rows = List (ℕ × ℕ)

abbrev pub rows_of : Counts → Rows
rows_of counts = (comma, counts.commas) ∷ (semicolon, counts.semicolons) ∷ (bar, counts.bars) ∷ []

-- none of the rows has more
abbrev pub has_most : Rows → ℕ × ℕ → Bool
has_most rows row = list_all (λ other. nat_le other.1 row.1) rows

-- the byte of the first row that has most
abbrev pub byte_of : Option (ℕ × ℕ) → ℕ
byte_of None = comma
byte_of (Some row) = row.0

abbrev pub most_frequent : Rows → ℕ
most_frequent rows = byte_of (find (has_most rows) rows)

-- one tab decides for the tab; else what is there most often, in the order comma, semicolon, bar
abbrev pub chosen : Counts → ℕ
chosen counts = if nat_lt 0 counts.tabs then tab else most_frequent (rows_of counts)

-- by the first line of a text
abbrev pub delimiter_in : List ℕ → ℕ
delimiter_in text = chosen (counts_of (outside text))
