-- A setting is the value of the last call that covers the cell.
use Rattle.std.specs.Prelude.{◌≡◌, List, [], ◌∷◌, Result, IfErr, IsOk, OnErr, OnOk, if◌then◌else◌}
use Rattle.grid_config_values.specs.declared.entity.Entity.{Entity}
use Rattle.grid_config_values.specs.declared.entity.Entity.TheVariants.{Global}
use Rattle.grid_config_values.specs.declared.entity_map.EntityMap.{EntityMap}
use Rattle.grid_config_values.specs.declared.fault.Fault.{Fault}
use Rattle.grid_config_values.specs.declared.fault.Fault.TheVariants.{Memory}
use Rattle.grid_config_values.specs.declared.position.Position.{Position}
use Rattle.grid_config_values.specs.Entities.{covers}

-- the value at a position after calls, the oldest first, each of which sets it where its entity covers the position
abbrev pub value_after : {T : Type 0} → T → List (Entity × T) → Position → T
value_after value [] p = value
value_after value (call ∷ later) p = value_after (if covers call.0 p then call.1 else value) later p

-- after new calls a position has the value where the entity covers it, and elsewhere what it has after the old ones
abbrev pub AddsCall : {T : Type 0} → List (Entity × T) → List (Entity × T) → Entity → T → Type 0
AddsCall {T} old new entity value = (start : T) (p : Position) → value_after start new p ≡ (if covers entity p then value else value_after start old p)

-- the value at a position
unfoldable pub value_at : {T : Type 0} → EntityMap T → Position → T
value_at map p = value_after map.global map.calls p

-- new has the value where the entity covers the position, and at every other position what old has
abbrev pub SetsCovered : {T : Type 0} → EntityMap T → EntityMap T → Entity → T → Type 0
SetsCovered old new entity value = (p : Position) → value_at new p ≡ (if covers entity p then value else value_at old p)

-- new has at every position what old has
abbrev pub IsUnchanged : {T : Type 0} → EntityMap T → EntityMap T → Type 0
IsUnchanged old new = (p : Position) → value_at new p ≡ value_at old p

-- the cells of the entity get the value, or the call is refused for want of memory and nothing changes; for all cells it
-- is never refused
pub record SetsOrIsRefused {T X : Type 0} (old new : EntityMap T) (entity : Entity) (value : T) (result : Result X Fault) : Type 0 where
  pub set : OnOk result (SetsCovered old new entity value)
  pub refused : OnErr result (IsUnchanged old new)
  pub fault : IfErr result (λ fault. fault ≡ Memory)
  pub global : entity ≡ Global → IsOk result

-- new is what these settings of sets of cells make of old, one after the other
abbrev pub AreSet : {T : Type 0} → List (Entity × T) → EntityMap T → EntityMap T → Type 0
AreSet [] old new = IsUnchanged old new
AreSet {T} (setting ∷ later) old new = (next : EntityMap T) × SetsCovered old next setting.0 setting.1 × AreSet later next new

-- every position has the same value
abbrev pub IsUniform : {T : Type 0} → EntityMap T → Type 0
IsUniform map = (p q : Position) → value_at map p ≡ value_at map q
