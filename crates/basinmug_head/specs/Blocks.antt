-- What one read does to the bytes so far.
use Rattle.std.specs.Prelude.{◌≡◌, ◌≤◌, ℕ, List, ◌++◌, Option, length}
use Rattle.std.specs.Io.KnownBytes.{Consumes, IsAtEnd}
use Rattle.tabled_output.specs.Counts.{HasGivenPieces}
use Rattle.tabled_output.specs.declared.counted.Counted.{Counted}

-- the reader gave so many bytes, which are after those before; none only at its end
pub record IsBlock (old new : Option (List ℕ)) (before after : List ℕ) (count : ℕ) : Type 0 where
  pub block : List ℕ
  pub consumed : Consumes old new block
  pub appended : after ≡ before ++ block
  pub counted : length block ≡ count
  pub at_end : count ≡ 0 → IsAtEnd new

-- the count of reads that gave bytes has grown by so many, or by fewer
abbrev pub HasGivenAtMost : {R : Type 0} → Counted R → Counted R → ℕ → Type 0
HasGivenAtMost before after most = (n : ℕ) × (n ≤ most) × HasGivenPieces before after n
