-- What calls do to the values.
use Rattle.std.proofs.Common.{◌≡◌, suc, false, IsTrue, List, [], ◌∷◌, ◌++◌, if◌then◌else◌, refl, ap, ◌∙◌, arith}
use Rattle.std.specs.List.{All}
use Rattle.grid_config_values.specs.declared.entity.Entity.{Entity}
use Rattle.grid_config_values.specs.declared.position.Position.{Position}
use Rattle.grid_config_values.specs.Entities.{covers}
use Rattle.grid_config_values.specs.declared.entity_map.EntityMap.{EntityMap}
use Rattle.grid_config_values.specs.Settings.{AreSet, value_after, value_at}

-- calls that don't cover the position leave the value
pub covered_by_none : {T : Type 0} (value : T) (calls : List (Entity × T)) (p : Position) → All (λ call. covers call.0 p ≡ false) calls → value_after value calls p ≡ value
covered_by_none value [] p none = refl
covered_by_none value (call ∷ calls) p none =
    let here : covers call.0 p ≡ false = none 0 call (omega arith) in
    rw here (covered_by_none value calls p (λ k d lt. none (suc k) d (omega arith)))

-- of the calls that cover the position the last one decides
pub covered_last : {T : Type 0} (value : T) (earlier later : List (Entity × T)) (call : Entity × T) (p : Position) → IsTrue (covers call.0 p) →
    All (λ other. covers other.0 p ≡ false) later → value_after value (earlier ++ call ∷ later) p ≡ call.1
covered_last value [] later call p here none = ap (λ b. value_after (if b then call.1 else value) later p) here ∙ covered_by_none call.1 later p none
covered_last value (first ∷ earlier) later call p here none = covered_last (if covers first.0 p then first.1 else value) earlier later call p here none

-- settings one after the other give the values that they leave
pub are_set : {T : Type 0} (calls : List (Entity × T)) (old new : EntityMap T) (p : Position) → AreSet calls old new → value_at new p ≡ value_after (value_at old p) calls p
are_set [] old new p set = set p
are_set (call ∷ calls) old new p (next, sets, others) =
    are_set calls next new p others ∙ ap (λ value. value_after value calls p) (sets p)
