-- How far the records of a text are walked over, and where the last of them ends.
use Rattle.std.specs.Prelude.{◌≡◌, ◌+◌, ◌-◌, ◌<◌, ◌≤◌, ⊤, ℕ, false, true, List, ◌++◌, Option, None, Some, drop, length, take}
use Rattle.basinmug_delimiter.specs.Preamble.{tells_mark}
use Rattle.basinmug_delimiter.specs.declared.Found.{Found}
use Rattle.basinmug_input.specs.Reading.{read_of, settings}
use Rattle.basinmug_input.specs.Rows.{text_of_bytes}
use Rattle.basinmug_input.specs.Walking.{csv_state}
use Rattle.basinmug_input.specs.declared.progress.RecordState.{RecordState}
use Rattle.csv.specs.Machine.{ends_at_end}
use Rattle.csv.specs.declared.parser.Action.{Action}
use Rattle.csv.specs.declared.parser.Action.TheVariants as act
use Rattle.csv.specs.declared.parser.Config.{Config}
use Rattle.basinmug_head.specs.declared.walk.Step.{Step}
use Rattle.basinmug_head.specs.declared.walk.Step.TheVariants.{On, End}
use Rattle.basinmug_head.specs.declared.walk.Walk.{Walk}
use Rattle.basinmug_head.specs.declared.walk.Walked.{Walked}

-- how many of so many records are still to end after a byte that does this
abbrev pub left_behind : Action → ℕ → ℕ
left_behind act.EndRecord left = left - 1
left_behind act.Skip left = left
left_behind act.Copy left = left
left_behind act.EndField left = left

-- the last of so many records of a text ends with the text
pub record EndsRecords (cfg : Config) (count : ℕ) (text : List ℕ) : Type 0 where
  pub counted : length (read_of cfg text).ended ≡ count
  pub ended : ends_at_end (read_of cfg text).state ≡ false

-- after this text the machine is in this state, and so many of the records are still to end
pub record IsWalkOf (cfg : Config) (count : ℕ) (text : List ℕ) (state : RecordState) (left : ℕ) : Type 0 where
  pub stands : csv_state state ≡ (read_of cfg text).state
  pub counted : length (read_of cfg text).ended + left ≡ count
  pub some : 0 < left

-- so many of these bytes are walked over from this state on: all, or those up to the end of the last record
pub record IsWalkedOver (cfg : Config) (state : RecordState) (left : ℕ) (bytes : List ℕ) (walked : Walked) : Type 0 where
  pub all : 0 < walked.left → walked.count ≡ length bytes
  pub on : 0 < walked.left → (count : ℕ) (text : List ℕ) → IsWalkOf cfg count text state left → IsWalkOf cfg count (text ++ bytes) walked.state walked.left
  pub end : walked.left ≡ 0 → (count : ℕ) (text : List ℕ) → IsWalkOf cfg count text state left → EndsRecords cfg count (text ++ take walked.count bytes)

-- after a text these bytes, the last of so many, are walked over too
abbrev pub IsStepOver : Found → ℕ → List ℕ → List ℕ → ℕ → Step → Type 0
IsStepOver found count text bytes size (On walk) =
    (walk.found ≡ found) × (state : RecordState) × (walk.state ≡ Some state) × IsWalkOf (settings found.delimiter) count (text ++ bytes) state walk.left
IsStepOver found count text bytes size (End end) =
    (n : ℕ) × (n ≤ length bytes) × (end ≡ size - length bytes + n) × EndsRecords (settings found.delimiter) count (text ++ take n bytes)

-- where the records begin
abbrev pub behind_start : Found → List ℕ → List ℕ
behind_start found bytes = drop found.start bytes

-- the records of a text with these bytes
abbrev pub record_text : Found → List ℕ → List ℕ
record_text found bytes = text_of_bytes (behind_start found bytes)

-- the machine is in this state after bytes, of which it must be known whether a byte order mark is before the
-- records
abbrev pub StandsBehind : Found → ℕ → List ℕ → ℕ → Option RecordState → Type 0
StandsBehind found count bytes left None = (tells_mark (behind_start found bytes) ≡ false) × (left ≡ count)
StandsBehind found count bytes left (Some state) =
    (tells_mark (behind_start found bytes) ≡ true) × IsWalkOf (settings found.delimiter) count (record_text found bytes) state left

-- these bytes of a text are walked over, in which so many records are wanted
pub record IsWalked (found : Found) (count : ℕ) (bytes : List ℕ) (walk : Walk) : Type 0 where
  pub same : walk.found ≡ found
  pub some : 0 < count
  pub stands : StandsBehind found count bytes walk.left walk.state

-- the last of so many records ends before the byte `end`, which is so many bytes after the start of the first
pub record IsEnd (found : Found) (count : ℕ) (bytes : List ℕ) (end : ℕ) : Type 0 where
  pub told : tells_mark (behind_start found bytes) ≡ true
  pub number : ℕ
  pub within : number ≤ length (record_text found bytes)
  pub place : end ≡ length bytes - length (record_text found bytes) + number
  pub ends : EndsRecords (settings found.delimiter) count (take number (record_text found bytes))

abbrev pub IsStep : Found → ℕ → List ℕ → Step → Type 0
IsStep found count bytes (On walk) = IsWalked found count bytes walk
IsStep found count bytes (End end) = IsEnd found count bytes end

-- a walk that goes on is one of the same text
abbrev pub KeepsFound : Found → Step → Type 0
KeepsFound found (On walk) = walk.found ≡ found
KeepsFound found (End end) = ⊤
