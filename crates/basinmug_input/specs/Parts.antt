-- A text whose fields are parts of it: what separates its fields, a field, and a record.
use Rattle.std.specs.Prelude.{◌≡◌, ◌≢◌, ◌<◌, ◌≤◌, ◌-◌, ◌==◌, ◌||◌, ◌↔◌, ◌++◌, IsTrue, not, ℕ, Bool, true, false, List, [], ◌∷◌, IsUtf8, Some, drop, length, nat_lt, slice_index, take}
use Rattle.std.specs.List.{AllByRecursion, list_all}
use Rattle.std.specs.Prelude.{map}
use Rattle.std.specs.Str.{IsCharBoundary}
use Rattle.csv.specs.Machine.{carriage_return, line_feed, next_record, step}
use Rattle.csv.specs.declared.parser.Action.{Action}
use Rattle.csv.specs.declared.parser.Action.TheVariants as act
use Rattle.csv.specs.declared.parser.Config.{Config}
use Rattle.csv.specs.declared.parser.State.{State}
use Rattle.csv.specs.declared.parser.State.TheVariants as st
use Rattle.program_options.specs.declared.basinmug.Escapes.{Escapes}
use Rattle.basinmug_cells.specs.Held.{Held}
use Rattle.basinmug_input.specs.Cleaning.{cleaned}
use Rattle.basinmug_input.specs.Flaws.{IsReadableField}
use Rattle.basinmug_input.specs.Kept.{IsReadRows}
use Rattle.basinmug_input.specs.Reading.{settings}
use Rattle.basinmug_input.specs.Rows.{HasShown, HaveShown}
use Rattle.basinmug_input.specs.declared.kept.ReadRows.{ReadRows}
use Rattle.basinmug_input.specs.declared.spans.FieldEnd.{FieldEnd}
use Rattle.basinmug_input.specs.declared.spans.FieldSpan.{FieldSpan}
use Rattle.basinmug_input.specs.declared.kept.RowChoice.{RowChoice}

-- U+0022 QUOTATION MARK
abbrev pub quote : ℕ
quote = 0x22

-- CARRIAGE RETURN or LINE FEED
abbrev pub is_line_end : ℕ → Bool
is_line_end byte = (byte == carriage_return) || (byte == line_feed)

-- the byte separates fields or records
abbrev pub is_between_fields : ℕ → ℕ → Bool
is_between_fields delimiter byte = (byte == delimiter) || is_line_end byte

-- a byte of a field
abbrev pub is_of_field : ℕ → ℕ → Bool
is_of_field delimiter byte = not (is_between_fields delimiter byte)

-- a byte that is no printable ASCII, or separates fields
abbrev pub is_special : ℕ → ℕ → Bool
is_special delimiter byte = (nat_lt byte 0x20 || nat_lt 0x7e byte) || (byte == delimiter)

-- any other: printable ASCII in a field
abbrev pub is_plain : ℕ → ℕ → Bool
is_plain delimiter byte = not (is_special delimiter byte)

-- a byte that a character may begin with which is not shown as it is (UTF-8, RFC 3629): a control character of ASCII, C2,
-- which begins those of C1, or E2, which begins those that turn the order of others
abbrev pub may_begin_hidden : ℕ → Bool
may_begin_hidden byte = ((nat_lt byte 0x20 || (byte == 0x7f)) || (byte == 0xc2)) || (byte == 0xe2)

-- such a byte, or one that separates fields
abbrev pub is_unclear : ℕ → ℕ → Bool
is_unclear delimiter byte = (byte == delimiter) || may_begin_hidden byte

-- any other
abbrev pub is_clear : ℕ → ℕ → Bool
is_clear delimiter byte = not (is_unclear delimiter byte)

-- no byte may begin a character that is not shown as it is
abbrev pub are_clear : List ℕ → Bool
are_clear bytes = list_all (λ byte. not (may_begin_hidden byte)) bytes

-- a byte that is no quote
abbrev pub is_no_quote : ℕ → Bool
is_no_quote byte = not (byte == quote)

-- a quote is at this place
abbrev pub IsQuoteAt : List ℕ → ℕ → Type 0
IsQuoteAt text at = (at < length text) × (slice_index text at ≡ quote)

-- the delimiter is at this place
abbrev pub IsPartedAt : ℕ → List ℕ → ℕ → Type 0
IsPartedAt delimiter text at = (at < length text) × (slice_index text at ≡ delimiter)

-- a byte that separates fields of a text is a character, and no quote
pub record PartsFields (delimiter : ℕ) : Type 0 where
  pub ascii : delimiter < 128
  pub no_quote : delimiter ≢ quote

-- ---- what the machine reads

abbrev pub is_quoted : State → Bool
is_quoted st.StartRecord = false
is_quoted st.StartField = false
is_quoted st.InField = false
is_quoted st.InQuoted = true
is_quoted st.AfterQuote = false
is_quoted st.InEscape = false
is_quoted st.InComment = false
is_quoted st.AfterCr = false

-- a text that is read from this state on ends in a quoted field
abbrev pub ends_quoted : Config → State → List ℕ → Bool
ends_quoted cfg s [] = is_quoted s
ends_quoted cfg s (byte ∷ text) = ends_quoted cfg (step cfg s byte).0 text

-- a byte with this action ends a field
abbrev pub is_field_end : Action → Bool
is_field_end act.EndField = true
is_field_end act.EndRecord = true
is_field_end act.Skip = false
is_field_end act.Copy = false

-- a field after a byte with this action, which does not end it
abbrev pub joined_with : Action → ℕ → List ℕ → List ℕ
joined_with act.Copy byte field = field ++ byte ∷ []
joined_with act.Skip byte field = field
joined_with act.EndField byte field = field
joined_with act.EndRecord byte field = field

-- one text is read as another, where the machine is in these states, and these are the fields and the bytes of a field that
-- were read before each
pub record ReadsAs (cfg : Config) (s : State) (fields : List (List ℕ)) (field text : List ℕ) (t : State) (others : List (List ℕ)) (other rest : List ℕ) : Type 0 where
  pub next : next_record cfg s fields field text ≡ next_record cfg t others other rest
  pub quoted : ends_quoted cfg s text ≡ ends_quoted cfg t rest

-- the field that begins at `start` has these bytes. At `end` is what separates it from the next, or the end of the text
pub record IsFieldAt (delimiter : ℕ) (text : List ℕ) (start end : ℕ) (field : List ℕ) : Type 0 where
  pub read : (fields : List (List ℕ)) → ReadsAs (settings delimiter) st.StartField fields [] (drop start text) st.InField fields field (drop end text)
  pub stops : end < length text → is_between_fields delimiter (slice_index text end) ≡ true
  pub upward : start ≤ end
  pub within : end ≤ length text

-- the field that begins at `start` has the bytes of the span, which are whole characters where the text is
pub record IsSpanAt (delimiter : ℕ) (text : List ℕ) (start : ℕ) (span : FieldSpan) : Type 0 where
  pub field : IsFieldAt delimiter text start span.end (take (span.to - span.from) (drop span.from text))
  pub upward : span.from ≤ span.to
  pub within : span.to ≤ length text
  pub boundaries : IsUtf8 text → IsCharBoundary text start → IsCharBoundary text span.from × IsCharBoundary text span.to

-- the bytes from `start` to `plain` are printable ASCII, and none is the delimiter
pub record BeginsPlain (delimiter : ℕ) (text : List ℕ) (start plain : ℕ) : Type 0 where
  pub after : start ≤ plain
  pub within : plain ≤ length text
  pub all : (k : ℕ) → start ≤ k → k < plain → is_plain delimiter (slice_index text k) ≡ true

-- the row that isn't ended has the field too that begins at `start`, which is sound and ends here
pub record HasNext (escapes : Escapes) (delimiter : ℕ) (text : List ℕ) (start : ℕ) (end : FieldEnd) (old new : Held) : Type 0 where
  pub field : List ℕ
  pub is : IsFieldAt delimiter text start end.at field
  pub parted : IsTrue end.is_parted ↔ IsPartedAt delimiter text end.at
  pub boundary : IsCharBoundary text end.at
  pub shown : HasShown escapes field old new

-- ---- records

-- a record can be read from this byte on: a character begins there, and it ends no line
pub record CanBeginRecord (text : List ℕ) (at : ℕ) : Type 0 where
  pub within : at < length text
  pub boundary : IsCharBoundary text at
  pub no_line_end : is_line_end (slice_index text at) ≡ false

-- the record that begins at `at` has these fields, and ends at `end`, where the next is looked for
pub record IsRecordAt (delimiter : ℕ) (text : List ℕ) (at end : ℕ) (fields : List (List ℕ)) : Type 0 where
  pub state : State
  pub left : List ℕ
  pub read : next_record (settings delimiter) st.StartRecord [] [] (drop at text) ≡ Some (fields, state, left)
  pub next : next_record (settings delimiter) state [] [] left ≡ next_record (settings delimiter) st.StartRecord [] [] (drop end text)
  pub quoted : ends_quoted (settings delimiter) st.StartRecord (drop at text) ≡ ends_quoted (settings delimiter) st.StartRecord (drop end text)
  pub above : at < end
  pub within : end ≤ length text
  pub boundary : IsCharBoundary text end

-- the row that isn't ended has its fields too, which are sound
pub record HasRecord (escapes : Escapes) (delimiter : ℕ) (text : List ℕ) (at end : ℕ) (old new : Held) : Type 0 where
  pub fields : List (List ℕ)
  pub is : IsRecordAt delimiter text at end fields
  pub shown : HaveShown escapes fields old new

-- these records are sound, and this is read of them, as a table shows them
pub record AreKeptOf (escapes : Escapes) (choice : RowChoice) (raw : List (List (List ℕ))) (read : ReadRows) : Type 0 where
  pub sound : AllByRecursion (AllByRecursion (IsReadableField escapes)) raw
  pub rows : IsReadRows choice (map (map (cleaned escapes)) raw) read
