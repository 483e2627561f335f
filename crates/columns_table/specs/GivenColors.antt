-- The colours of columns that were given.
use Rattle.std.specs.Prelude.{ℕ, List}
use Rattle.columns_table.specs.declared.colors.ColumnColors.{ColumnColors}
use Rattle.grid_config.specs.Colors.{Color}

abbrev pub given_colors : ColumnColors → List (ℕ × Color)
given_colors colors = colors.given.now
