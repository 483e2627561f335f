-- Where something is in a text of records.
use Rattle.std.specs.Prelude.{◌≡◌, ◌+◌, ◌<◌, ◌==◌, ℕ, List, count_by, length, slice_index, take}
use Rattle.csv.specs.Machine.{line_feed, step}
use Rattle.csv.specs.declared.parser.Action.TheVariants as act
use Rattle.csv.specs.declared.parser.Config.{Config}
use Rattle.csv.specs.declared.parser.State.TheVariants as st
use Rattle.basinmug_input.specs.Reading.{SoFar, read_of}

-- the line of a byte: one more than the line feeds before it
abbrev pub line_number_at : List ℕ → ℕ → ℕ
line_number_at text at = count_by (λ byte. byte == line_feed) (take at text) + 1

-- what is read before a byte
abbrev pub read_before : Config → List ℕ → ℕ → SoFar
read_before cfg text at = read_of cfg (take at text)

-- the field of a byte in its record: one more than the fields of the record that have ended before it
abbrev pub field_at : Config → List ℕ → ℕ → ℕ
field_at cfg text at = length (read_before cfg text at).fields + 1

-- the byte of a text at `at` is read as byte `byte` of field `field` of record `row`; all count from 0
pub record IsReadAs (cfg : Config) (text : List ℕ) (at row field byte : ℕ) : Type 0 where
  pub within : at < length text
  pub in_record : length (read_before cfg text at).ended ≡ row
  pub in_field : length (read_before cfg text at).fields ≡ field
  pub as_byte : length (read_before cfg text at).field ≡ byte
  pub joins : (step cfg (read_before cfg text at).state (slice_index text at)).1 ≡ act.Copy

-- ---- quotes

-- the text ends in a quoted field
abbrev pub EndsInQuotes : Config → List ℕ → Type 0
EndsInQuotes cfg text = (read_of cfg text).state ≡ st.InQuoted

-- the byte at `at` is a quote that opens a field: it is no part of the field, and after it the field is quoted
abbrev pub Opens : Config → List ℕ → ℕ → Type 0
Opens cfg text at = step cfg (read_before cfg text at).state (slice_index text at) ≡ (st.InQuoted, act.Skip)

-- the quote at `at` opens a field of a text and isn't closed: it is the last that opens one, and the text ends in
-- quotes
pub record IsOpenQuote (cfg : Config) (text : List ℕ) (at : ℕ) : Type 0 where
  pub within : at < length text
  pub opens : Opens cfg text at
  pub last : (behind : ℕ) → at < behind → behind < length text → ¬ Opens cfg text behind
  pub ends : EndsInQuotes cfg text
