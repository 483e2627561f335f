-- A text without the white space at both its ends, as a function.
use Rattle.std.specs.Prelude.{ℕ, ◌+◌, ◌-◌, List, length}
use Rattle.std.specs.Str.{trim, trim_start}
use Rattle.ansi_scan.specs.Pieces.{pieces}
use Rattle.ansi_str.specs.StyledText.{strip}
use Rattle.ansi_str.specs.Keeping.{kept}

-- where that which Rust's `trim` leaves of a text without sequences begins, and where it ends
abbrev pub trimmed_from : List ℕ → ℕ
trimmed_from text = length text - length (trim_start text)

abbrev pub trimmed_to : List ℕ → ℕ
trimmed_to text = trimmed_from text + length (trim text)

-- the text from there to there, with every sequence
unfoldable pub trimmed : List ℕ → List ℕ
trimmed text = let shown = strip (pieces text) in kept (trimmed_from shown) (trimmed_to shown) (pieces text)
