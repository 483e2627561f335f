-- The settings of a table whose cells have colours.
use Rattle.std.specs.Prelude.{Option}
use Rattle.grid_config_values.specs.declared.entity_map.EntityMap.{EntityMap}
use Rattle.grid_config.specs.Ansi.Colors.{Color}
use Rattle.grid_config.specs.Settings.{Settings}

-- the settings, and the colours of the cells
pub record Coloring : Type 0 where
  pub settings : Settings
  pub colors : EntityMap (Option Color)
