use Rattle.std.proofs.Common.{◌≡◌, take, option_map}
use Rattle.columns_asked.specs.Colors.ColumnColors.{column_color}
use Rattle.grid_config.specs.Colors.{color_of}
use Rattle.columns_table.proofs.colors.last_color.Given as goal

abbrev pub invariant-loop-one : goal.invariant-loop-one
invariant-loop-one l = option_map color_of l.found ≡ column_color (take l.one-index l.given) l.column
