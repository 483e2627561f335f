-- A state of equal parts.
use Rattle.std.proofs.Common.{◌≡◌, List, ℕ, None, Option, ◌∙◌, ap}
use Rattle.std.proofs.Math.Path.{fun_ext}
use Rattle.grid_config.specs.Colors.{Color}
use Rattle.grid_config_values.specs.declared.entity_map.EntityMap.{EntityMap}
use Rattle.grid_config_values.specs.declared.position.Position.{Position}
use Rattle.grid_config_values.specs.Settings.{value_at}
use Rattle.grid_config.specs.Looks.{Look}
use Rattle.grid_config.specs.Settings.{IsEverywhere}
use Rattle.tabled_size.specs.Dimension.Stored.{Stored, none_stored}
use Rattle.tabled_steps.specs.States.{state_with}
use Rattle.tabled.specs.Tables.{new_look, new_state}

pub assembled : (rows wanted : List (List (List ℕ))) (look : Look) (colors : EntityMap (Option Color)) (sizes : Stored) → rows ≡ wanted → look ≡ new_look → IsEverywhere colors None → sizes ≡ none_stored →
    state_with rows look (value_at colors) sizes ≡ new_state wanted
assembled rows wanted look colors sizes of_rows of_look of_colors of_sizes =
    ap (λ rows. state_with rows look (value_at colors) sizes) of_rows ∙ ap (λ look. state_with wanted look (value_at colors) sizes) of_look
    ∙ ap (λ (colors : Position → Option Color). state_with wanted new_look colors sizes) (fun_ext of_colors) ∙ ap (λ sizes. state_with wanted new_look (λ _. None) sizes) of_sizes
