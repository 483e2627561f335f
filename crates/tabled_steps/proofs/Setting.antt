-- A setter of settings is a step of their look.
use Rattle.std.proofs.Common.{◌≡◌, ℕ, Bool, List, Option, Result, Ok, Err, IfErr, OnErr, OnOk, ap, sym, subst}
use Rattle.std.proofs.Math.Path.{fun_ext}
use Rattle.grid_config.specs.Colors.{Color}
use Rattle.grid_config_values.specs.declared.alignment.AlignmentHorizontal.{AlignmentHorizontal}
use Rattle.grid_config_values.specs.declared.alignment.AlignmentVertical.{AlignmentVertical}
use Rattle.grid_config_values.specs.declared.entity.Entity.{Entity}
use Rattle.grid_config_values.specs.declared.entity_map.EntityMap.{EntityMap}
use Rattle.grid_config_values.specs.declared.fault.Fault.{Fault}
use Rattle.grid_config_values.specs.declared.fault.Fault.TheVariants.{Memory}
use Rattle.grid_config_values.specs.declared.position.Position.{Position}
use Rattle.grid_config_values.specs.declared.sides.Indent.{Indent}
use Rattle.grid_config_values.specs.declared.sides.Sides.{Sides}
use Rattle.grid_config_values.specs.Settings.{IsUnchanged, SetsCovered, SetsOrIsRefused, value_at}
use Rattle.grid_config.specs.Looks.{Look, look_of}
use Rattle.grid_config.specs.Settings.{KeepsOthers, Settings, Padding, HorizontalAlignment, VerticalAlignment, LineAlignment, TrimHorizontal, TrimVertical, Justification}
use Rattle.tabled_steps.specs.Looks.{covering, with_alignment_horizontal, with_alignment_vertical, with_justification, with_line_alignment, with_padding, with_trim_horizontal, with_trim_vertical}
use Rattle.tabled_steps.specs.Outcomes.{MayRefuseStep}
use Rattle.tabled_steps.specs.States.{StepsTo, looking, state_with}
use Rattle.tabled_size.specs.Dimension.Stored.{Stored}

memory_may_come : {Y : Type 0} (fault : Fault) (gives : Result Y Fault → Type 0) → fault ≡ Memory → MayRefuseStep fault gives
memory_may_come fault gives is = subst (λ (fault : Fault). MayRefuseStep fault gives) (sym is) tt

-- a call that changes the look, or leaves it and is refused for memory
pub look_steps : {X : Type 0} (change : Look → Look) (old new : Look) (result : Result X Fault) → OnOk result (new ≡ change old) → OnErr result (new ≡ old) → IfErr result (λ fault. fault ≡ Memory) →
    (rows : List (List (List ℕ))) (colors : Position → Option Color) (sizes : Stored) → StepsTo (looking change) result (state_with rows old colors sizes) (state_with rows new colors sizes)
look_steps change old new result =
    elim result as (λ result. OnOk result (new ≡ change old) → OnErr result (new ≡ old) → IfErr result (λ fault. fault ≡ Memory) → (rows : List (List (List ℕ))) (colors : Position → Option Color) (sizes : Stored) →
    StepsTo (looking change) result (state_with rows old colors sizes) (state_with rows new colors sizes)) [
      | Ok x ↦ λ set kept fault rows colors sizes. ap (λ (look : Look). Ok (state_with rows look colors sizes)) (sym set)
      | Err refusal ↦ λ set kept fault rows colors sizes. (ap (λ (look : Look). state_with rows look colors sizes) kept, memory_may_come refusal (λ outcome. looking change (state_with rows old colors sizes) ≡ outcome) fault)
    ]

-- the same of a call that sets the value of an entity's cells
covered_steps : {T X : Type 0} (put : (Position → T) → Look) (old new : EntityMap T) (at : Entity) (value : T) (result : Result X Fault) →
    OnOk result (SetsCovered old new at value) → OnErr result (IsUnchanged old new) →
    OnOk result (put (value_at new) ≡ put (covering at value (value_at old))) × OnErr result (put (value_at new) ≡ put (value_at old))
covered_steps put old new at value result =
    elim result as (λ result. OnOk result (SetsCovered old new at value) → OnErr result (IsUnchanged old new) →
    OnOk result (put (value_at new) ≡ put (covering at value (value_at old))) × OnErr result (put (value_at new) ≡ put (value_at old))) [
      | Ok x ↦ λ set kept. (ap put (fun_ext set), tt)
      | Err fault ↦ λ set kept. (tt, ap put (fun_ext kept))
    ]

module _ {X : Type 0} (old before new : Settings) (same : before ≡ old) (at : Entity) (result : Result X Fault) where
  pub padding_steps : (value : Sides Indent) → KeepsOthers Padding before new → SetsOrIsRefused before.padding new.padding at value result →
      (rows : List (List (List ℕ))) (colors : Position → Option Color) (sizes : Stored) → StepsTo (looking (with_padding at value)) result (state_with rows (look_of old) colors sizes) (state_with rows (look_of new) colors sizes)
  padding_steps value others outcome =
      let put : (Position → Sides Indent) → Look = λ values. record (look_of before) { padding = values } in
      let covered = covered_steps put before.padding new.padding at value result outcome.set outcome.refused in
      rw (← same) (rw (ap look_of others) (look_steps (with_padding at value) (look_of before) (put (value_at new.padding)) result covered.0 covered.1 outcome.fault))

  pub alignment_horizontal_steps : (value : AlignmentHorizontal) → KeepsOthers HorizontalAlignment before new → SetsOrIsRefused before.alignment_horizontal new.alignment_horizontal at value result →
      (rows : List (List (List ℕ))) (colors : Position → Option Color) (sizes : Stored) → StepsTo (looking (with_alignment_horizontal at value)) result (state_with rows (look_of old) colors sizes) (state_with rows (look_of new) colors sizes)
  alignment_horizontal_steps value others outcome =
      let put : (Position → AlignmentHorizontal) → Look = λ values. record (look_of before) { alignment_horizontal = values } in
      let covered = covered_steps put before.alignment_horizontal new.alignment_horizontal at value result outcome.set outcome.refused in
      rw (← same) (rw (ap look_of others) (look_steps (with_alignment_horizontal at value) (look_of before) (put (value_at new.alignment_horizontal)) result covered.0 covered.1 outcome.fault))

  pub alignment_vertical_steps : (value : AlignmentVertical) → KeepsOthers VerticalAlignment before new → SetsOrIsRefused before.alignment_vertical new.alignment_vertical at value result →
      (rows : List (List (List ℕ))) (colors : Position → Option Color) (sizes : Stored) → StepsTo (looking (with_alignment_vertical at value)) result (state_with rows (look_of old) colors sizes) (state_with rows (look_of new) colors sizes)
  alignment_vertical_steps value others outcome =
      let put : (Position → AlignmentVertical) → Look = λ values. record (look_of before) { alignment_vertical = values } in
      let covered = covered_steps put before.alignment_vertical new.alignment_vertical at value result outcome.set outcome.refused in
      rw (← same) (rw (ap look_of others) (look_steps (with_alignment_vertical at value) (look_of before) (put (value_at new.alignment_vertical)) result covered.0 covered.1 outcome.fault))

  pub line_alignment_steps : (value : Bool) → KeepsOthers LineAlignment before new → SetsOrIsRefused before.line_alignment new.line_alignment at value result →
      (rows : List (List (List ℕ))) (colors : Position → Option Color) (sizes : Stored) → StepsTo (looking (with_line_alignment at value)) result (state_with rows (look_of old) colors sizes) (state_with rows (look_of new) colors sizes)
  line_alignment_steps value others outcome =
      let put : (Position → Bool) → Look = λ values. record (look_of before) { line_alignment = values } in
      let covered = covered_steps put before.line_alignment new.line_alignment at value result outcome.set outcome.refused in
      rw (← same) (rw (ap look_of others) (look_steps (with_line_alignment at value) (look_of before) (put (value_at new.line_alignment)) result covered.0 covered.1 outcome.fault))

  pub trim_horizontal_steps : (value : Bool) → KeepsOthers TrimHorizontal before new → SetsOrIsRefused before.trim_horizontal new.trim_horizontal at value result →
      (rows : List (List (List ℕ))) (colors : Position → Option Color) (sizes : Stored) → StepsTo (looking (with_trim_horizontal at value)) result (state_with rows (look_of old) colors sizes) (state_with rows (look_of new) colors sizes)
  trim_horizontal_steps value others outcome =
      let put : (Position → Bool) → Look = λ values. record (look_of before) { trim_horizontal = values } in
      let covered = covered_steps put before.trim_horizontal new.trim_horizontal at value result outcome.set outcome.refused in
      rw (← same) (rw (ap look_of others) (look_steps (with_trim_horizontal at value) (look_of before) (put (value_at new.trim_horizontal)) result covered.0 covered.1 outcome.fault))

  pub trim_vertical_steps : (value : Bool) → KeepsOthers TrimVertical before new → SetsOrIsRefused before.trim_vertical new.trim_vertical at value result →
      (rows : List (List (List ℕ))) (colors : Position → Option Color) (sizes : Stored) → StepsTo (looking (with_trim_vertical at value)) result (state_with rows (look_of old) colors sizes) (state_with rows (look_of new) colors sizes)
  trim_vertical_steps value others outcome =
      let put : (Position → Bool) → Look = λ values. record (look_of before) { trim_vertical = values } in
      let covered = covered_steps put before.trim_vertical new.trim_vertical at value result outcome.set outcome.refused in
      rw (← same) (rw (ap look_of others) (look_steps (with_trim_vertical at value) (look_of before) (put (value_at new.trim_vertical)) result covered.0 covered.1 outcome.fault))

  pub justification_steps : (value : ℕ) → KeepsOthers Justification before new → SetsOrIsRefused before.justification new.justification at value result →
      (rows : List (List (List ℕ))) (colors : Position → Option Color) (sizes : Stored) → StepsTo (looking (with_justification at value)) result (state_with rows (look_of old) colors sizes) (state_with rows (look_of new) colors sizes)
  justification_steps value others outcome =
      let put : (Position → ℕ) → Look = λ values. record (look_of before) { justification = values } in
      let covered = covered_steps put before.justification new.justification at value result outcome.set outcome.refused in
      rw (← same) (rw (ap look_of others) (look_steps (with_justification at value) (look_of before) (put (value_at new.justification)) result covered.0 covered.1 outcome.fault))
