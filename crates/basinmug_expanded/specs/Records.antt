-- Records one below the other: the lines of all that is written, by the records. A text is the list of its bytes.
use Rattle.std.specs.Prelude.{ℕ, ◌-◌, ◌==◌, nat_le, nat_lt, max, Bool, true, List, [], ◌∷◌, ◌++◌, codes, drop, length, map, replicate, slice_index_or, take, if◌then◌else◌}
use Rattle.std.specs.List.{flat_map, range_with_len}
use Rattle.grid_records_measure.specs.TextLines.{line_feed, line_width, text_lines, text_width}
use Rattle.basinmug_columns.specs.Fitting.Fitting.{cut_lines, ellipsis, wrap_words}
use Rattle.basinmug_columns.specs.Rows.{rows_line}
use Rattle.basinmug_columns.specs.declared.rows.RowsShown.{RowsShown}
use Rattle.basinmug_columns.specs.declared.rows.RowsShown.TheVariants.{All, More, Earlier, Between}
use Rattle.basinmug_expanded.specs.Columns.{Columns, columns_of, head_of, names_of, record_number}
use Rattle.basinmug_expanded.specs.declared.form.Form.{Form}

-- ---- lines of a name and of a value

-- a text in so many columns: one that fits stays, and of another the lines are cut, or wrapped between words
abbrev pub fitted : Bool → ℕ → List ℕ → List ℕ
fitted truncate columns text = if nat_lt columns (text_width text) then (if truncate then cut_lines columns text else wrap_words columns text) else text

-- the lines of a text in so many columns, each of which opens and ends its own styles
abbrev pub fitted_lines : Bool → ℕ → List ℕ → List (List ℕ)
fitted_lines truncate columns text = text_lines (fitted truncate columns text)

-- a line and the spaces that it lacks of so many columns
abbrev pub filled_line : ℕ → List ℕ → List ℕ
filled_line columns line = line ++ replicate (columns - line_width line) 0x20

-- the lines of a name, which is cut where it is wider than its columns
abbrev pub name_lines : ℕ → List ℕ → List (List ℕ)
name_lines columns name = map (filled_line columns) (fitted_lines true columns name)

-- ---- lines of a record

abbrev pub dashes : ℕ → List ℕ
dashes count = replicate count 0x2d

-- after a head of so many columns: dashes, and a cross where the bar of the lines below is, unless the head takes its
-- place
abbrev pub cross_behind : ℕ → ℕ → List ℕ
cross_behind names taken = if nat_le taken names then dashes (names - taken) ++ codes "-+" else []

-- the rule above a record: its head, the cross and dashes, as many columns as a rule has
abbrev pub rule_line : Columns → ℕ → List ℕ
rule_line columns number = take columns.rule (head_of number ++ (cross_behind columns.names (length (head_of number)) ++ dashes columns.rule))

-- line `number` of a field, whose name and value have these lines: the name has spaces where it has no line more, and
-- the value nothing
abbrev pub field_line : ℕ → List (List ℕ) → List (List ℕ) → ℕ → List ℕ
field_line columns name value number = slice_index_or name number (replicate columns 0x20) ++ (codes " | " ++ slice_index_or value number [])

-- as many lines as the name or the value has
abbrev pub field_lines : Columns → List (List ℕ) → List ℕ → List (List ℕ)
field_lines columns name value =
    let lines = fitted_lines columns.truncate columns.values value in
    map (field_line columns.names name lines) (range_with_len 0 (max (length name) (length lines)))

-- a rule, and the lines of each field, whose name has these lines; a value that a record lacks is the empty text
abbrev pub record_lines : Columns → List (List (List ℕ)) → ℕ → List (List ℕ) → List (List ℕ)
record_lines columns names number values =
    rule_line columns number ∷ flat_map (λ field. field_lines columns (slice_index_or names field []) (slice_index_or values field [])) (range_with_len 0 (length names))

-- ---- all lines

-- the lines of records that have their numbers from one on
abbrev pub numbered_lines : Columns → List (List (List ℕ)) → ℕ → List (List (List ℕ)) → List (List ℕ)
numbered_lines columns names from records = flat_map (λ place. record_lines columns names (record_number from place) (slice_index_or records place [])) (range_with_len 0 (length records))

-- the line in place of so many records that are left out, where some are
abbrev pub gap_lines : ℕ → List (List ℕ)
gap_lines left_out = if left_out == 0 then [] else ellipsis ∷ []

-- the lines of the records that are shown, which have the numbers that they have among all
abbrev pub all_lines : Columns → List (List (List ℕ)) → RowsShown → List (List (List ℕ)) → List (List ℕ)
all_lines columns names All records = numbered_lines columns names 0 records
all_lines columns names (More more) records = numbered_lines columns names 0 records
all_lines columns names (Earlier earlier) records = numbered_lines columns names earlier records
all_lines columns names (Between first left_out) records =
    numbered_lines columns names 0 (take first records) ++ (gap_lines left_out ++ numbered_lines columns names (record_number first left_out) (drop first records))

-- each line with a line feed after it
abbrev pub ended_lines : List (List ℕ) → List ℕ
ended_lines lines = flat_map (λ line. line ++ line_feed ∷ []) lines

-- the lines of records in a form, of which the fields are called by this header
abbrev pub lines_of : Form → List (List ℕ) → List (List (List ℕ)) → List (List ℕ)
lines_of form header records =
    let names = names_of form.header header records in
    let columns = columns_of form names records in
    all_lines columns (map (name_lines columns.names) names) form.rows_shown records

-- what is written of them: below the lines, how many records are left out
abbrev pub records_text : Form → List (List ℕ) → List (List (List ℕ)) → List ℕ
records_text form header records = ended_lines (lines_of form header records) ++ rows_line (codes "record") form.rows_shown
