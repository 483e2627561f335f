-- A table in sizes, one for each of its columns and rows.
use Rattle.std.specs.Prelude.{◌≡◌, ◌==◌, ◌++◌, ℕ, List, [], ◌∷◌, Option, Result, if◌then◌else◌, length, slice_index}
use Rattle.grid_config.specs.Colors.{Color}
use Rattle.grid_config.specs.Looks.{look_of}
use Rattle.grid_config.specs.Settings.{Settings}
use Rattle.grid_config_values.specs.declared.fault.Fault.{Fault}
use Rattle.grid_config_values.specs.declared.position.Position.{Position}
use Rattle.grid_records_measure.specs.TextLines.{line_feed}
use Rattle.papergrid_fits.specs.Grids.{grid_text}
use Rattle.papergrid_fits.specs.Tables.{CanBeDrawn, IsFitsAnswer}
use Rattle.columns_table.specs.declared.sizes.Sizes.{Sizes}

-- as many widths as columns, and as many heights as rows
abbrev pub AreSizesOf : Sizes → ℕ → ℕ → Type 0
AreSizesOf sizes columns rows = (length sizes.widths.items ≡ columns) × (length sizes.heights.items ≡ rows)

-- so many columns of these rows can be drawn in these sizes
abbrev pub CanBeDrawnIn : Sizes → Settings → ℕ → List (List (List ℕ)) → Type 0
CanBeDrawnIn sizes settings columns rows = CanBeDrawn settings (slice_index sizes.widths.items) (slice_index sizes.heights.items) columns rows

-- what `fits` returns of them
abbrev pub IsAnswerIn : Sizes → Settings → ℕ → List (List (List ℕ)) → Result (Unit {0}) Fault → Type 0
IsAnswerIn sizes settings columns rows answer = IsFitsAnswer settings (slice_index sizes.widths.items) (slice_index sizes.heights.items) columns rows answer

-- their text in these sizes, with a line feed after its last line; empty where there is no line
abbrev pub text_in : Sizes → Settings → (Position → Option Color) → ℕ → List (List (List ℕ)) → List ℕ
text_in sizes settings colors columns rows =
    if sizes.whole_height == 0 then []
    else grid_text (look_of settings) (slice_index sizes.widths.items) (slice_index sizes.heights.items) colors columns rows ++ line_feed ∷ []
