-- Colours that are given for columns.
use Rattle.std.specs.Prelude.{ℕ, ◌==◌, List, Option, None, Some, fold, if◌then◌else◌}
use Rattle.grid_config.specs.Colors.{Color}
use Rattle.grid_config_values.specs.declared.position.Position.{Position}

-- the colour of a column: the last that is given for it
abbrev pub column_color : List (ℕ × Color) → ℕ → Option Color
column_color colors column = fold (λ found given. if given.0 == column then Some given.1 else found) None colors

-- each cell has the colour of its column; a colour of a column that the table does not have is no cell's
abbrev pub cell_color : List (ℕ × Color) → Position → Option Color
cell_color colors cell = column_color colors cell.col
