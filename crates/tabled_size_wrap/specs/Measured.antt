-- What is known of a text beside its bytes.
use Rattle.std.specs.Prelude.{◌≡◌, ℕ, List, length}
use Rattle.ansi_scan.specs.Sequences.{ForPieces}
use Rattle.grid_records_measure.specs.TextLines.{shown_lines, widest}

-- the text has so many lines
abbrev pub HasLines : List ℕ → ℕ → Type 0
HasLines text lines = ForPieces text (λ pieces. lines ≡ length (shown_lines pieces))

-- its widest line measures so many columns
abbrev pub HasColumns : List ℕ → ℕ → Type 0
HasColumns text columns = ForPieces text (λ pieces. columns ≡ widest (shown_lines pieces))
