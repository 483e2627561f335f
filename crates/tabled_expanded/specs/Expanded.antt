-- Records in expanded form: a head for each, and then a line for each of its values. A text is the list of its bytes.
use Rattle.std.specs.Prelude.{ℕ, ◌+◌, ◌-◌, ◌^◌, ◌==◌, ◌<◌, ◌≤◌, max, nat_lt, List, [], ◌∷◌, ◌++◌, chars, codes, flat_map, length, map, replicate, zip, if◌then◌else◌}
use Rattle.grid_records_measure.specs.TextLines.{line_feed, line_width}
use Rattle.tabled_expanded.specs.Escapes.{escaped}

-- the names of the fields, and for each record its values
pub record Expanded : Type 0 where
  pub fields : List (List ℕ)
  pub records : List (List (List ℕ))

-- the first row names the fields, each other is a record; without rows there is nothing
abbrev pub table_of_rows : List (List (List ℕ)) → Expanded
table_of_rows [] = record { fields = []; records = [] }
table_of_rows (row ∷ rows) = record { fields = row; records = rows }

-- fields of these names and records of these values, each escaped
abbrev pub escaped_table : List (List ℕ) → List (List (List ℕ)) → Expanded
escaped_table names records = record { fields = map escaped names; records = map (map escaped) records }

-- ---- widths, in columns of the terminal

-- the widest of some texts, each read as one line; 0 where there is none
abbrev pub widest_text : List (List ℕ) → ℕ
widest_text [] = 0
widest_text (text ∷ texts) = max (line_width text) (widest_text texts)

-- the widest value of some records
abbrev pub widest_value : List (List (List ℕ)) → ℕ
widest_value [] = 0
widest_value (values ∷ records) = max (widest_text values) (widest_value records)

abbrev pub field_width : Expanded → ℕ
field_width table = widest_text table.fields

abbrev pub value_width : Expanded → ℕ
value_width table = widest_value table.records

-- a table that has a head, whose width passes the greatest usize
abbrev pub WidthPassesRange : Expanded → Type 0
WidthPassesRange table = (0 < length table.records) × (2 ^ 64 ≤ field_width table + 3 + value_width table)

-- ---- lines

abbrev pub dashes : ℕ → List ℕ
dashes count = replicate count 0x2d

-- what follows in a head where so many bytes of it are taken, if fields and values have these widths. These are dashes
-- as far as a line can be wide, with a `+` where the lines have their bar, unless that place is taken
abbrev pub filled_from : ℕ → ℕ → ℕ → List ℕ
filled_from fields values taken =
    let total = max (fields + 3 + values) taken in
    if nat_lt taken (fields + 2) then dashes (fields + 1 - taken) ++ (0x2b ∷ dashes (total - (fields + 2)))
    else dashes (total - taken)

-- the head around this text
abbrev pub head_line : ℕ → ℕ → List ℕ → List ℕ
head_line fields values text = 0x2d ∷ (text ++ (0x2d ∷ filled_from fields values (length text + 2)))

-- a name of a field, filled with spaces to so many characters, and its value
abbrev pub field_line : ℕ → List ℕ → List ℕ → List ℕ
field_line width field value = field ++ (replicate (width - length (chars field)) 0x20 ++ (codes " | " ++ value))

-- a line for each value that has a field
abbrev pub field_lines : ℕ → List (List ℕ) → List (List ℕ) → List (List ℕ)
field_lines width fields values = map (λ (pair : List ℕ × List ℕ). field_line width pair.0 pair.1) (zip fields values)

-- the lines of a record: its head, and its fields
abbrev pub record_lines : ℕ → ℕ → List (List ℕ) → List ℕ → List (List ℕ) → List (List ℕ)
record_lines width values_width fields head values = head_line width values_width head ∷ field_lines width fields values

-- the lines of all records, of which each has a head
abbrev pub all_lines : ℕ → ℕ → List (List ℕ) → List (List ℕ) → List (List (List ℕ)) → List (List ℕ)
all_lines width values_width fields heads records =
    flat_map (λ (pair : List ℕ × List (List ℕ)). record_lines width values_width fields pair.0 pair.1) (zip heads records)

-- each line with a line feed before it
abbrev pub behind_feeds : List (List ℕ) → List ℕ
behind_feeds lines = flat_map (λ line. line_feed ∷ line) lines

-- lines with a line feed between each two
abbrev pub joined_lines : List (List ℕ) → List ℕ
joined_lines [] = []
joined_lines (line ∷ lines) = line ++ behind_feeds lines

-- the line feed before a record, where it is not the first
abbrev pub feed_before : ℕ → List ℕ
feed_before number = if number == 0 then [] else line_feed ∷ []

-- the text of a table whose records have heads around these texts
abbrev pub expanded_text : Expanded → List (List ℕ) → List ℕ
expanded_text table heads = joined_lines (all_lines (field_width table) (value_width table) table.fields heads table.records)
