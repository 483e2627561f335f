use Rattle.std.proofs.Common.{◌∙◌, Option, ap}
use Rattle.grid_config.specs.Ansi.Colors.{Color}
use Rattle.grid_config_values.specs.declared.entity_map.EntityMap.{EntityMap}
use Rattle.grid_config_values.specs.Settings.{value_at}
use Rattle.grid_config.proofs.colored.ColoredConfig.clone.Goals as goal

pub returns-clause-colors : goal.returns-clause-colors
returns-clause-colors c p = c.in_ok-clone-2.ensures p ∙ ap (λ (colors : EntityMap (Option Color)). value_at colors p) c.get_colors.ensures
