-- The first line of a text of which a prefix is known.
use Rattle.std.specs.Prelude.{◌≡◌, ℕ, List, Option, None, Some, false, true}
use Rattle.basinmug_delimiter.specs.Preamble.{text_after_mark, tells_mark}
use Rattle.basinmug_delimiter.specs.States.{is_ended, state_after}
use Rattle.basinmug_delimiter.specs.declared.first_line.FirstLine.{FirstLine}
use Rattle.basinmug_delimiter.specs.declared.state.State.{State}
use Rattle.basinmug_delimiter.specs.declared.state.State.TheVariants.{Before}

-- a prefix of a text has its first line whole, whatever follows: it shows whether a byte order mark is at the start,
-- and the line has ended
pub record HasFirstLine (front : List ℕ) : Type 0 where
  pub told : tells_mark front ≡ true
  pub ended : is_ended (state_after true Before (text_after_mark front)) ≡ true

-- this is known of the first line by a prefix of the text: what the byte after it is in, once it is known whether a
-- mark is at the start
abbrev pub IsStandOf : List ℕ → Option State → Type 0
IsStandOf front None = tells_mark front ≡ false
IsStandOf front (Some stand) = (tells_mark front ≡ true) × (stand ≡ state_after true Before (text_after_mark front))

abbrev pub IsKnownOf : List ℕ → FirstLine → Type 0
IsKnownOf front line = IsStandOf front line.stand
