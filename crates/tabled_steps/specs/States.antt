-- What a table is, and what a step makes of it.
use Rattle.std.specs.Prelude.{◌≡◌, ℕ, ◌==◌, if◌then◌else◌, List, [], ◌∷◌, MatchResult, None, Option, Result, Ok, Err, length}
use Rattle.grid_config_values.specs.declared.entity.Entity.{Entity}
use Rattle.grid_config_values.specs.declared.fault.Fault.{Fault}
use Rattle.grid_config_values.specs.declared.fault.Fault.TheVariants.{Spans}
use Rattle.grid_config_values.specs.declared.position.Position.{Position}
use Rattle.grid_config_values.specs.Settings.{value_at}
use Rattle.grid_config.specs.Coloring.{Coloring}
use Rattle.grid_config.specs.Colors.{Color}
use Rattle.grid_config.specs.Compact.{Compact}
use Rattle.grid_config.specs.Looks.{Look, compact_look, look_of}
use Rattle.tabled_steps.specs.Outcomes.{MayRefuseStep, ◌≫=◌}
use Rattle.tabled_size.specs.Dimension.Stored.{Stored, kept_after}

-- its texts by rows, its settings as each cell has them, the colours of its cells, and the sizes that it keeps
pub record State : Type 0 where
  pub rows : List (List (List ℕ))
  pub look : Look
  pub colors : Position → Option Color
  pub sizes : Stored

abbrev pub state_with : List (List (List ℕ)) → Look → (Position → Option Color) → Stored → State
state_with rows look colors sizes = record { rows = rows; look = look; colors = colors; sizes = sizes }

-- a table by its settings and the colours of its cells
abbrev pub colored_state : List (List (List ℕ)) → Coloring → Stored → State
colored_state rows settings sizes = state_with rows (look_of settings.settings) (value_at settings.colors) sizes

-- a table whose cells all have the same settings, and none a colour
abbrev pub compact_state : List (List (List ℕ)) → Compact → Stored → State
compact_state rows settings sizes = state_with rows (compact_look settings) (λ _. None) sizes

-- how many columns rows have: as many as the first one has texts
abbrev pub column_count : List (List (List ℕ)) → ℕ
column_count [] = 0
column_count (row ∷ rows) = length row

-- ---- steps

-- the state that a step leads to, or why it is refused
abbrev pub Outcome : Type 0
Outcome = Result State Fault

-- a call is a step. Accepted, it leaves a state that the step may lead to. Refused, as `Memory` or as the step may be,
-- it leaves the state as it was
abbrev pub Steps : {T : Type 0} → (State → Outcome → Type 0) → Result T Fault → State → State → Type 0
Steps step result old new = MatchResult result (λ _. step old (Ok new)) (λ fault. (new ≡ old) × MayRefuseStep fault (step old))

-- the same of a step that leads to one outcome
abbrev pub StepsTo : {T : Type 0} → (State → Outcome) → Result T Fault → State → State → Type 0
StepsTo step result old new = Steps (λ state outcome. step state ≡ outcome) result old new

-- after a step the sizes that its hint clears are no longer kept
abbrev pub settled : Option Entity → Outcome → Outcome
settled hint outcome = outcome ≫= λ s. Ok (record s { sizes = kept_after hint s.sizes })

abbrev pub Settles : Option Entity → (State → Outcome → Type 0) → State → Outcome → Type 0
Settles hint step state outcome = (changed : Outcome) × step state changed × (settled hint changed ≡ outcome)

-- ---- steps on the settings

abbrev pub looking : (Look → Look) → State → Outcome
looking change s = Ok (record s { look = change s.look })

-- no cell takes 0 rows or columns: such a step is refused
abbrev pub positive : ℕ → (State → Outcome) → State → Outcome
positive n step s = if n == 0 then Err Spans else step s
