-- A grid by what it is made of, a line of what it prints, and those of its lines that are chosen.
use Rattle.std.specs.Prelude.{ℕ, Bool, List, Option, length}
use Rattle.grid_config_values.specs.declared.position.Position.{Position}
use Rattle.grid_config.specs.Colors.{Color}
use Rattle.grid_config.specs.Looks.{Look}
use Rattle.papergrid_picture.specs.Tables.{sizes_of, table_line}
use Rattle.papergrid_print.specs.Chosen.{chosen_text}
use Rattle.papergrid_print.specs.declared.choice.LineKind.{LineKind}

-- records, settings, sizes and colours
pub record Parts (R G D C : Type 0) : Type 0 where
  pub records : R
  pub settings : G
  pub sizes : D
  pub colors : C

-- line y of the text of rows of texts in `columns` columns, without a line feed
abbrev pub line_text : Look → (ℕ → ℕ) → (ℕ → ℕ) → (Position → Option Color) → ℕ → List (List (List ℕ)) → ℕ → List ℕ
line_text look width height colors columns rows y = table_line look rows colors (sizes_of width columns) (sizes_of height (length rows)) y

-- the lines of that text that are chosen by what they show, each with a line feed after it
abbrev pub chosen_grid_text : Look → (ℕ → ℕ) → (ℕ → ℕ) → (Position → Option Color) → ℕ → List (List (List ℕ)) → (LineKind → Bool) → List ℕ
chosen_grid_text look width height colors columns rows chooses = chosen_text look rows colors (sizes_of width columns) (sizes_of height (length rows)) chooses
