-- Steps that follow what was worked out or measured.
use Rattle.std.specs.Prelude.{◌≡◌, ℕ, List, Result, Ok, Err}
use Rattle.grid_config_values.specs.declared.fault.Fault.{Fault}
use Rattle.grid_config.specs.Looks.{Look}
use Rattle.tabled_steps.specs.States.{Outcome, State, column_count}

-- with what was worked out; where that is refused, so is the step
abbrev pub Then : {A : Type 0} → Result A Fault → (A → Outcome → Type 0) → Outcome → Type 0
Then (Ok x) next outcome = next x outcome
Then (Err fault) next outcome = Err fault ≡ outcome

-- with a size that a measurement may give of the table
abbrev pub Measured : (ℕ → List (List (List ℕ)) → Look → Result ℕ Fault → Type 0) → (ℕ → State → Outcome → Type 0) → State → Outcome → Type 0
Measured measures step s outcome = (size : Result ℕ Fault) × measures (column_count s.rows) s.rows s.look size × Then size (λ n. step n s) outcome
