-- Colours of columns that are kept beside those that are given.
use Rattle.std.specs.Prelude.{◌≡◌, ◌<◌, ℕ, List, Option, None, length, slice_index_or}
use Rattle.std.specs.Option.{option_map}
use Rattle.columns_asked.specs.Colors.ColumnColors.{column_color}
use Rattle.grid_config.specs.Colors.{Color, color_of}
use Rattle.grid_config.specs.declared.ANSIStr.{ANSIStr}

-- the colour that is kept of a column
abbrev pub kept_color : List (Option ANSIStr) → ℕ → Option Color
kept_color kept column = option_map color_of (slice_index_or kept column None)

-- of the first columns the colours are kept
abbrev pub KeepsColors : List (ℕ × Color) → List (Option ANSIStr) → Type 0
KeepsColors given kept = (column : ℕ) → column < length kept → kept_color kept column ≡ column_color given column
