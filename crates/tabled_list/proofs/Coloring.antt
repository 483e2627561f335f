-- The setter of colours is a step of the colours of cells.
use Rattle.std.proofs.Common.{◌≡◌, ◌∙◌, ℕ, List, Option, Some, Result, Ok, Err, ap, sym, subst}
use Rattle.std.proofs.Math.Path.{fun_ext}
use Rattle.grid_config.specs.Colors.{Color as CellColor}
use Rattle.grid_config.specs.Looks.{Look}
use Rattle.grid_config_values.specs.Settings.{SetsOrIsRefused, value_at}
use Rattle.grid_config_values.specs.declared.entity.Entity.{Entity}
use Rattle.grid_config_values.specs.declared.entity_map.EntityMap.{EntityMap}
use Rattle.grid_config_values.specs.declared.fault.Fault.{Fault}
use Rattle.grid_config_values.specs.declared.position.Position.{Position}
use Rattle.tabled_list.specs.Settings.{coloring}
use Rattle.tabled_size.specs.Dimension.Stored.{Stored}
use Rattle.tabled_steps.specs.Outcomes.{MayRefuseStep}
use Rattle.tabled_steps.specs.States.{StepsTo, state_with}

abbrev Colors : Type 0
Colors = Position → Option CellColor

module _ {X : Type 0} (rows : List (List (List ℕ))) (sizes : Stored) (look same : Look) (is : same ≡ look) (old new : EntityMap (Option CellColor)) (at : Entity) (color : CellColor) where
  pub color_steps : (result : Result X Fault) → SetsOrIsRefused old new at (Some color) result
      → StepsTo (coloring at color) result (state_with rows look (value_at old) sizes) (state_with rows same (value_at new) sizes)
  color_steps (Ok x) outcome =
      sym (ap (λ (look : Look). Ok (state_with rows look (value_at new) sizes)) is ∙ ap (λ (colors : Colors). Ok (state_with rows look colors sizes)) (fun_ext outcome.set))
  color_steps (Err refusal) outcome = (
    ap (λ (look : Look). state_with rows look (value_at new) sizes) is ∙ ap (λ (colors : Colors). state_with rows look colors sizes) (fun_ext outcome.refused),
    subst (λ (fault : Fault). MayRefuseStep fault (λ outcome. coloring at color (state_with rows look (value_at old) sizes) ≡ outcome)) (sym outcome.fault) tt,
  )
