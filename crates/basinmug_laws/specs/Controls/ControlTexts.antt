-- Texts without control characters outside their sequences.
use Rattle.std.specs.Prelude.{ℕ, Bool, not, List}
use Rattle.basinmug_input.specs.Cleaning.{is_control}
use Rattle.tables_laws.specs.Grids.TextsOf.{IsTextOf}

-- a character that is none of C0, DELETE or C1
abbrev pub is_no_control : ℕ → Bool
is_no_control c = not (is_control c)

-- a text in UTF-8, each ESC of which begins a whole sequence, and which shows no control character but line feeds
abbrev pub ShowsNoControls : List ℕ → Type 0
ShowsNoControls text = IsTextOf is_no_control text
