-- The texts of a table, each changed by its place.
use Rattle.std.specs.Prelude.{ℕ, ◌+◌, Bool, List, [], ◌∷◌, Ok, Err, if◌then◌else◌}
use Rattle.ansi_scan.specs.Pieces.{pieces}
use Rattle.ansi_str.specs.StyledText.{strip}
use Rattle.grid_config_values.specs.declared.position.Position.{Position}
use Rattle.grid_records_estimate.specs.Sizing.{position_at}
use Rattle.tabled_steps.specs.States.{Outcome, State}

module _ (f : Position → List ℕ → List ℕ) where
  -- the texts of a row, from a column on; and the rows, from a row on
  abbrev pub row_by : ℕ → ℕ → List (List ℕ) → List (List ℕ)
  row_by row column [] = []
  row_by row column (text ∷ texts) = f (position_at row column) text ∷ row_by row (column + 1) texts

  abbrev pub rows_from : ℕ → List (List (List ℕ)) → List (List (List ℕ))
  rows_from row [] = []
  rows_from row (texts ∷ rows) = row_by row 0 texts ∷ rows_from (row + 1) rows

  abbrev pub state_by : State → State
  state_by s = record s { rows = rows_from 0 s.rows }

  abbrev pub outcome_by : Outcome → Outcome
  outcome_by (Ok s) = Ok (state_by s)
  outcome_by (Err fault) = Err fault

-- without sequences, but at the places that are kept
abbrev pub stripped_but : (Position → Bool) → Position → List ℕ → List ℕ
stripped_but keep place text = if keep place then text else strip (pieces text)
