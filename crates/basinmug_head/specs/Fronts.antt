-- The prefix of a text, by which it is known what is between its fields.
use Rattle.std.specs.Prelude.{◌≡◌, ⊤, ℕ, Bool, false, true, List, Option, None, Some}
use Rattle.std.specs.Io.KnownBytes.{Consumes, IsAtEnd}
use Rattle.basinmug_delimiter.specs.FirstLines.{HasFirstLine}

-- this prefix of a text says what is between its fields: that is requested, or the first line is whole
abbrev pub TellsFields : Option ℕ → List ℕ → Type 0
TellsFields None front = HasFirstLine front
TellsFields (Some delimiter) front = ⊤

-- the reader gave these bytes, which decide it; or it is at its end
pub record IsFront (old new : Option (List ℕ)) (asked : Option ℕ) (bytes : List ℕ) (ended : Bool) : Type 0 where
  pub consumed : Consumes old new bytes
  pub told : (ended ≡ true → IsAtEnd new) × (ended ≡ false → TellsFields asked bytes)
