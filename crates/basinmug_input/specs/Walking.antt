-- The reader's states and counts as the code holds them.
use Rattle.std.specs.Prelude.{◌≡◌, ◌+◌, ◌<◌, ◌≤◌, ◌^◌, ℕ, List, length}
use Rattle.csv.specs.declared.parser.Action.{Action}
use Rattle.csv.specs.declared.parser.Action.TheVariants as act
use Rattle.csv.specs.declared.parser.Config.{Config}
use Rattle.csv.specs.declared.parser.State.{State}
use Rattle.csv.specs.declared.parser.State.TheVariants as st
use Rattle.basinmug_input.specs.Reading.{read_of}
use Rattle.basinmug_input.specs.declared.progress.ByteAction.{ByteAction}
use Rattle.basinmug_input.specs.declared.progress.ByteAction.TheVariants as own_act
use Rattle.basinmug_input.specs.declared.progress.Progress.{Progress}
use Rattle.basinmug_input.specs.declared.progress.RecordState.{RecordState}
use Rattle.basinmug_input.specs.declared.progress.RecordState.TheVariants as own_st

abbrev pub csv_state : RecordState → State
csv_state own_st.RecordStart = st.StartRecord
csv_state own_st.FieldStart = st.StartField
csv_state own_st.Unquoted = st.InField
csv_state own_st.Quoted = st.InQuoted
csv_state own_st.QuoteBehind = st.AfterQuote
csv_state own_st.ReturnBehind = st.AfterCr

abbrev pub csv_action : ByteAction → Action
csv_action own_act.Skip = act.Skip
csv_action own_act.Copy = act.Copy
csv_action own_act.EndField = act.EndField
csv_action own_act.EndRecord = act.EndRecord

-- the counts can grow by one
pub record CanCountOn (progress : Progress) : Type 0 where
  pub records : progress.records + 1 < 2 ^ 64
  pub fields : progress.fields + 1 < 2 ^ 64
  pub bytes : progress.bytes + 1 < 2 ^ 64

-- each count is at most n
pub record HasAtMost (n : ℕ) (progress : Progress) : Type 0 where
  pub records : progress.records ≤ n
  pub fields : progress.fields ≤ n
  pub bytes : progress.bytes ≤ n

-- this much is read of a text
pub record IsReadOf (cfg : Config) (text : List ℕ) (progress : Progress) : Type 0 where
  pub state : csv_state progress.state ≡ (read_of cfg text).state
  pub records : progress.records ≡ length (read_of cfg text).ended
  pub fields : progress.fields ≡ length (read_of cfg text).fields
  pub bytes : progress.bytes ≡ length (read_of cfg text).field
