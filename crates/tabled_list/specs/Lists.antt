-- What a list of settings makes of a table.
use Rattle.std.specs.List.{All}
use Rattle.std.specs.Prelude.{◌≡◌, ◌<◌, ℕ, List, [], ◌∷◌, IfSome, Ok, length, slice_get, take}
use Rattle.grid_config_values.specs.declared.fault.Fault.{Fault}
use Rattle.tabled_steps.specs.Outcomes.{MayRefuseStep}
use Rattle.tabled_steps.specs.States.{State}
use Rattle.tabled_list.specs.Settings.{IsSetter, setting_step}
use Rattle.tabled_list.specs.declared.setting.Setting.{Setting}

-- one step after the other leads from a state to this one
abbrev pub LeadsThrough : List Setting → State → State → Type 0
LeadsThrough [] state last = state ≡ last
LeadsThrough (setting ∷ settings) state last = (next : State) × setting_step setting state (Ok next) × LeadsThrough settings next last

-- the settings before this one were run, and its step is refused of the state that they led to
pub record RefusedAt (settings : List Setting) (old new : State) (index : ℕ) (fault : Fault) : Type 0 where
  pub inside : index < length settings
  pub before : LeadsThrough (take index settings) old new
  pub refused : IfSome (slice_get settings index) (λ setting. MayRefuseStep fault (setting_step setting new))

-- each of the settings is a setter of the configuration
abbrev pub AreSetters : List Setting → Type 0
AreSetters settings = All IsSetter settings
