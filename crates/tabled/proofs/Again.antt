-- A table of equal parts.
use Rattle.std.proofs.Common.{◌≡◌, List, ℕ, ◌∙◌, Option, ap}
use Rattle.std.proofs.Math.Path.{fun_ext}
use Rattle.grid_config.specs.Colors.{Color}
use Rattle.grid_config_values.specs.declared.entity_map.EntityMap.{EntityMap}
use Rattle.grid_config_values.specs.declared.position.Position.{Position}
use Rattle.grid_config_values.specs.Settings.{IsUnchanged, value_at}
use Rattle.grid_config.specs.Looks.{Look}
use Rattle.tabled_size.specs.Dimension.Stored.{Stored}
use Rattle.tabled_steps.specs.States.{state_with}

pub again : (rows others : List (List (List ℕ))) (look same : Look) (colors copied : EntityMap (Option Color)) (sizes kept : Stored) →
    others ≡ rows → same ≡ look → IsUnchanged colors copied → kept ≡ sizes → state_with others same (value_at copied) kept ≡ state_with rows look (value_at colors) sizes
again rows others look same colors copied sizes kept of_rows of_look of_colors of_sizes =
    ap (λ rows. state_with rows same (value_at copied) kept) of_rows ∙ ap (λ look. state_with rows look (value_at copied) kept) of_look
    ∙ ap (λ (colors : Position → Option Color). state_with rows look colors kept) (fun_ext of_colors) ∙ ap (λ sizes. state_with rows look (value_at colors) sizes) of_sizes
