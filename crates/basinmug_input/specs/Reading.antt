-- How a text of records is read: by the machine of the crate `csv`, byte by byte (RFC 4180, section 2).
use Rattle.std.specs.Borrow.{Bor}
use Rattle.std.specs.Prelude.{⊤, ◌≡◌, ◌<◌, Some, true, ℕ, List, [], ◌∷◌, ◌++◌, fold, length, if◌then◌else◌}
use Rattle.std.specs.Prelude.{slice_index_or}
use Rattle.csv.specs.Machine.{ends_at_end, step}
use Rattle.csv.specs.Reading.{Ready, default_config, is_flexible, reader_config, reader_state, reader_trim, records, source_of, strip_bom}
use Rattle.csv.specs.declared.error.ErrorKind.{ErrorKind}
use Rattle.csv.specs.declared.error.ErrorKind.TheVariants as kind
use Rattle.csv.specs.declared.parser.Action.{Action}
use Rattle.csv.specs.declared.parser.Action.TheVariants as act
use Rattle.csv.specs.declared.parser.Config.{Config}
use Rattle.csv.specs.declared.parser.State.{State}
use Rattle.csv.specs.declared.parser.State.TheVariants as st
use Rattle.csv.specs.declared.reader.Reader.{Reader}
use Rattle.csv.specs.declared.reader.Trim.TheVariants as trim

-- this byte separates fields; a field may be in quotes, in which two quotes mean one; a carriage return, a line feed
-- or both end a record, and empty lines are no records
abbrev pub settings : ℕ → Config
settings delimiter = record default_config { delimiter = delimiter }

-- a reader of these bytes that has read none of them: as the settings say, of records of any lengths, of which none is
-- kept as a header
pub record IsReaderOf (delimiter : ℕ) (bytes : List ℕ) (reader : Reader (Bor (List ℕ))) : Type 0 where
  pub trim : reader_trim reader ≡ trim.None
  pub ready : Ready reader
  pub flexible : is_flexible reader ≡ true
  pub config : reader_config reader ≡ settings delimiter
  pub source : source_of (λ (s : Bor (List ℕ)). Some s.now) reader ≡ Some (strip_bom bytes)
  pub state : reader_state reader ≡ st.StartRecord

-- what is read of a text: its records that have ended, the fields that have ended in the record at hand, the bytes of
-- the field at hand, and the state of the machine
pub record SoFar : Type 0 where
  pub ended : List (List (List ℕ))
  pub fields : List (List ℕ)
  pub field : List ℕ
  pub state : State

abbrev pub nothing : SoFar
nothing = record { ended = []; fields = []; field = []; state = st.StartRecord }

-- what is read with one byte more, which does this and leaves the machine in this state
abbrev pub with_byte : Action → State → SoFar → ℕ → SoFar
with_byte act.Skip state read byte = record { ended = read.ended; fields = read.fields; field = read.field; state = state }
with_byte act.Copy state read byte = record { ended = read.ended; fields = read.fields; field = read.field ++ byte ∷ []; state = state }
with_byte act.EndField state read byte = record { ended = read.ended; fields = read.fields ++ read.field ∷ []; field = []; state = state }
with_byte act.EndRecord state read byte = record { ended = read.ended ++ (read.fields ++ read.field ∷ []) ∷ []; fields = []; field = []; state = state }

abbrev pub read_on : Config → SoFar → ℕ → SoFar
read_on cfg read byte = with_byte (step cfg read.state byte).1 (step cfg read.state byte).0 read byte

-- what is read of a text in all
abbrev pub read_of : Config → List ℕ → SoFar
read_of cfg text = fold (read_on cfg) nothing text

-- the records of what is read, where the text ends there
abbrev pub all_read : SoFar → List (List (List ℕ))
all_read read = if ends_at_end read.state then read.ended ++ (read.fields ++ read.field ∷ []) ∷ [] else read.ended

-- a reader of bytes in memory fails for memory. That reading them fails is not ruled out by a contract of std, though
-- none does
abbrev pub IsOfMemory : ErrorKind → Type 0
IsOfMemory (kind.Io error) = ⊤
IsOfMemory kind.OutOfMemory = ⊤
IsOfMemory (kind.UnequalLengths place expected found) = ⊥
IsOfMemory (kind.Utf8 place error) = ⊥
IsOfMemory (kind.Serialize reason) = ⊥
IsOfMemory (kind.Deserialize place error) = ⊥

-- a field of records, by the places of the record and of the field in it; empty where there is none
abbrev pub field_in : List (List (List ℕ)) → ℕ → ℕ → List ℕ
field_in rows row field = slice_index_or (slice_index_or rows row []) field []

-- the records of a text have this byte: of this record this field has it; all count from 0
abbrev pub HasByte : Config → List ℕ → ℕ → ℕ → ℕ → Type 0
HasByte cfg text row field byte = byte < length (field_in (records cfg text) row field)
