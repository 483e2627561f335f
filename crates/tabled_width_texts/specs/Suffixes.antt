-- What a suffix takes.
use Rattle.std.specs.Prelude.{◌≡◌, ℕ, List, chars}
use Rattle.ansi_scan.specs.Sequences.{ForPieces}
use Rattle.ansi_str.specs.StyledText.{strip}
use Rattle.grid_records_measure.specs.Measures.{measure}

-- the text takes `taken` columns in a line
abbrev pub TakesColumns : List ℕ → ℕ → Type 0
TakesColumns text taken = ForPieces text (λ pieces. taken ≡ measure (chars (strip pieces)))
