-- What a grid prints.
use Rattle.std.specs.Prelude.{ℕ, List, Option, length}
use Rattle.grid_config_values.specs.declared.position.Position.{Position}
use Rattle.grid_config.specs.Colors.{Color}
use Rattle.grid_config.specs.Looks.{Look}
use Rattle.papergrid_picture.specs.Tables.{sizes_of, table_text}

-- the text of rows of texts in `columns` columns: their picture in bytes
abbrev pub grid_text : Look → (ℕ → ℕ) → (ℕ → ℕ) → (Position → Option Color) → ℕ → List (List (List ℕ)) → List ℕ
grid_text look width height colors columns rows = table_text look rows colors (sizes_of width columns) (sizes_of height (length rows))
