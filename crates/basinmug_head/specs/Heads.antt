-- The prefix of a text that has its first records.
use Rattle.std.specs.Prelude.{◌≡◌, ◌⊎◌, ◌≤◌, ◌+◌, ◌-◌, ◌^◌, ℕ, Bool, false, true, List, [], ◌++◌, Option, None, Some, if◌then◌else◌, length, min, take}
use Rattle.std.specs.Io.KnownBytes.{Consumes, IsAtEnd}
use Rattle.basinmug_delimiter.specs.Finding.{found_in}
use Rattle.basinmug_delimiter.specs.declared.Found.{Found}
use Rattle.basinmug_input.specs.Reading.{settings}
use Rattle.csv.specs.Reading.{records}
use Rattle.basinmug_head.specs.Fronts.{TellsFields}
use Rattle.basinmug_head.specs.Walking.{record_text}

-- what is between the fields of bytes, and where their records begin: the byte that is requested; where none is, what
-- is found by the bytes and the name of their file
abbrev pub asked_or_found : Option ℕ → List ℕ → Option (List ℕ) → Found
asked_or_found (Some delimiter) bytes file = record { delimiter = delimiter; start = 0 }
asked_or_found None bytes file = found_in bytes file

-- how many records are read: the header is one more than are requested; no memory holds more than 2^64 - 1
abbrev pub records_read : Bool → Option ℕ → Option ℕ
records_read header None = None
records_read header (Some records) = Some (if header then min (records + 1) (2 ^ 64 - 1) else records)

-- the records of bytes, of which this is found
abbrev pub records_of : Found → List ℕ → List (List (List ℕ))
records_of found bytes = records (settings found.delimiter) (record_text found bytes)

-- what is found in a text: in a prefix of it, which says what is between its fields, or in all of it
pub record IsFoundIn (asked : Option ℕ) (file : Option (List ℕ)) (text : List ℕ) (found : Found) : Type 0 where
  pub front : List ℕ
  pub behind : List ℕ
  pub parts : text ≡ front ++ behind
  pub told : (behind ≡ []) ⊎ TellsFields asked front
  pub found_by : found ≡ asked_or_found asked front file

-- the bytes are a prefix of the text, and their records are its first so many
pub record IsHeadOf (asked : Option ℕ) (file : Option (List ℕ)) (count : ℕ) (bytes : List ℕ) (found : Found) (text : List ℕ) : Type 0 where
  pub finding : IsFoundIn asked file text found
  pub behind : List ℕ
  pub front : text ≡ bytes ++ behind
  pub first : records_of found bytes ≡ take count (records_of found text)

-- ---- of what is read

-- the bytes are a prefix of these, and their records are the first so many, whatever is after these
pub record IsCut (found : Found) (count : ℕ) (all bytes : List ℕ) : Type 0 where
  pub behind : List ℕ
  pub front : all ≡ bytes ++ behind
  pub first : (rest : List ℕ) → records_of found bytes ≡ take count (records_of found (all ++ rest))

-- the bytes are all, and have no more records
pub record IsWhole (found : Found) (count : ℕ) (all bytes : List ℕ) : Type 0 where
  pub same : bytes ≡ all
  pub few : length (records_of found bytes) ≤ count

-- more bytes are read after these, none where these are all; so many records of them are kept, or all to the reader's
-- end
pub record IsHeadIn (old new : Option (List ℕ)) (found : Found) (count : ℕ) (before : List ℕ) (ended : Bool) (bytes : List ℕ) : Type 0 where
  pub more : List ℕ
  pub consumed : Consumes old new more
  pub within : found.start ≤ length bytes
  pub no_more : ended ≡ true → more ≡ []
  pub kept : IsCut found count (before ++ more) bytes ⊎ (IsWhole found count (before ++ more) bytes × (ended ≡ false → IsAtEnd new))
