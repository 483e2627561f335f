-- The columns of records one below the other: those of the names, those of the values, and those of a rule. A text is
-- the list of its bytes; a width is in columns of the terminal.
use Rattle.std.specs.Prelude.{ℕ, ◌+◌, ◌-◌, ◌/◌, ◌^◌, max, min, nat_lt, Bool, List, [], ◌∷◌, ◌++◌, Option, None, Some, codes, decimal, length, map, slice_index_or, if◌then◌else◌}
use Rattle.std.specs.List.{range_with_len}
use Rattle.std.specs.Option.{unwrap_or}
use Rattle.grid_records_measure.specs.TextLines.{text_width}
use Rattle.tabled_text.specs.Rows.{longest}
use Rattle.basinmug_columns.specs.declared.rows.RowsShown.{RowsShown}
use Rattle.basinmug_columns.specs.declared.rows.RowsShown.TheVariants.{All, More, Earlier, Between}
use Rattle.basinmug_expanded.specs.declared.form.Form.{Form}
use Rattle.basinmug_expanded.specs.declared.columns.Columns.{Columns as OwnColumns}

-- ---- names

-- a record has as many fields as the header has names, or as the longest record has values
abbrev pub field_count : List (List ℕ) → List (List (List ℕ)) → ℕ
field_count header records = max (length header) (longest records)

-- what a field is called: by the header, where there is one, and what that lacks is the empty text; else by number,
-- from 0
abbrev pub name_of : Bool → List (List ℕ) → ℕ → List ℕ
name_of has_header header field = if has_header then slice_index_or header field [] else decimal field

abbrev pub names_of : Bool → List (List ℕ) → List (List (List ℕ)) → List (List ℕ)
names_of has_header header records = map (name_of has_header header) (range_with_len 0 (field_count header records))

-- ---- numbers

-- the number of the record at this place of records that have numbers from one on; no memory holds more than 2^64 - 1
abbrev pub record_number : ℕ → ℕ → ℕ
record_number from place = min (2 ^ 64 - 1) (from + place)

-- the number of the last of so many records that are shown: their count less one, and those before it that are left out
abbrev pub last_number : RowsShown → ℕ → ℕ
last_number All count = count - 1
last_number (More more) count = count - 1
last_number (Earlier earlier) count = record_number earlier (count - 1)
last_number (Between first left_out) count = if nat_lt first count then record_number left_out (count - 1) else count - 1

-- ---- widths

-- the columns of the widest line of some texts; 0 where there is no text
abbrev pub widest : List (List ℕ) → ℕ
widest [] = 0
widest (text ∷ texts) = max (text_width text) (widest texts)

-- the same of all values
abbrev pub widest_value : List (List (List ℕ)) → ℕ
widest_value [] = 0
widest_value (values ∷ records) = max (widest values) (widest_value records)

-- the head of a rule, which has the number of its record
abbrev pub head_of : ℕ → List ℕ
head_of number = codes "-[ RECORD " ++ (decimal number ++ codes " ]")

-- the columns of the names, of the values and of a rule, and whether values are cut
pub record Columns : Type 0 where
  pub names : ℕ
  pub values : ℕ
  pub rule : ℕ
  pub truncate : Bool

-- the names have what they request, but at most half of a width that is given
abbrev pub columns_of_names : Option ℕ → ℕ → ℕ
columns_of_names None asked = asked
columns_of_names (Some width) asked = min asked (width / 2)

-- the values have what they request, or, where a width is given, what the names and the bar leave of it, but at least
-- one
abbrev pub columns_of_values : Option ℕ → ℕ → ℕ → ℕ
columns_of_values None names asked = asked
columns_of_values (Some width) names asked = max 1 (width - (names + 3))

-- a rule is as long as the names, the bar and the values request, or as the longest head and a dash, but at most as the
-- width: the one that is given, or 80
abbrev pub columns_of_rule : Option ℕ → ℕ → ℕ → ℕ → ℕ
columns_of_rule width names values head = min (max (names + 3 + values) (head + 1)) (unwrap_or width 80)

abbrev pub columns_of : Form → List (List ℕ) → List (List (List ℕ)) → Columns
columns_of form names records =
    let of_names = columns_of_names form.width (widest names) in
    record {
      names = of_names;
      values = columns_of_values form.width of_names (widest_value records);
      rule = columns_of_rule form.width of_names (widest_value records) (length (head_of (last_number form.rows_shown (length records))));
      truncate = form.truncate;
    }

-- columns as the code has them
abbrev pub columns_view : OwnColumns → Columns
columns_view columns = record { names = columns.names; values = columns.values; rule = columns.rule; truncate = columns.truncate }
