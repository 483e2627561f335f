-- The colours of columns in what a run wants.
use Rattle.std.proofs.Common.{◌≡◌, ◌==◌, ℕ, Bool, true, false, List, [], ◌∷◌, Option, None, Some, fold, refl, ap, sym, ◌∙◌, if◌then◌else◌}
use Rattle.std.specs.Prelude.{IfSome}
use Rattle.std.specs.List.{AllByRecursion}
use Rattle.std.proofs.lemmas.List.Elements.{recursion_from_All}
use Rattle.ansi_scan.specs.Pieces.{pieces}
use Rattle.ansi_scan.specs.Sequences.{NoneBroken}
use Rattle.ansi_str.specs.StyledText.{styled}
use Rattle.columns_asked.specs.DrawnTables.{asked_text}
use Rattle.columns_asked.specs.Colors.ColoredTables.{colored_items, colored_text}
use Rattle.columns_asked.specs.Colors.ColumnColors.{cell_color}
use Rattle.columns_asked.proofs.ColorsLemmas.Tables.{items-uncolored, text-uncolored}
use Rattle.program_options.specs.Columns.ColumnColors.{AllClose}
use Rattle.grid_config.specs.Colors.{Color}
use Rattle.grid_config.specs.Looks.{Look}
use Rattle.papergrid_picture.specs.Colors.ClosingColors.{AreClosing, IsClosing, ShowNothing, ShowsNothing}
use Rattle.papergrid_picture.proofs.ColorsLemmas.Stripped.{AreSame, AreSame-nothing, around, closing-show_nothing}
use Rattle.papergrid_picture.specs.Reading.{painted}
use Rattle.papergrid_picture.specs.Shown.{character_of}
use Rattle.papergrid_picture.specs.Tables.{in_bytes}
use Rattle.columns_run.specs.DrawnTables.{colored_line, output_of, picture, picture_without_colors}
use Rattle.columns_run.specs.Rows.{cell_parts, rows_of}
use Rattle.columns_run.specs.Wanted.{Wanted}

-- ---- the colours of cells

closing-found : (colors : List (ℕ × Color)) (column : ℕ) (found : Option Color) → IfSome found IsClosing → AllByRecursion (λ (given : ℕ × Color). IsClosing given.1) colors
    → IfSome (fold (λ found (given : ℕ × Color). if given.0 == column then Some given.1 else found) found colors) IsClosing
closing-found [] column found here all = here
closing-found (given ∷ colors) column found here all = closing-found colors column (if given.0 == column then Some given.1 else found) (either (given.0 == column)) all.1
  where
    either : (b : Bool) → IfSome (if b then Some given.1 else found) IsClosing
    either true = all.0
    either false = here

-- where each colour closes, each cell's does
pub cells-close : (colors : List (ℕ × Color)) → AllClose colors → AreClosing (cell_color colors)
cells-close colors all = λ cell. closing-found colors cell.col None tt (recursion_from_All (λ (given : ℕ × Color). IsClosing given.1) colors all)

pub cells-silent : (colors : List (ℕ × Color)) → AllClose colors → ShowNothing (cell_color colors)
cells-silent colors all = closing-show_nothing (cell_color colors) (cells-close colors all)

-- ---- a line in a colour

pub painted-is : (look : Look) (rows : List (List (List ℕ))) (color : Option Color) (bytes : List ℕ) → painted (in_bytes look rows) color bytes ≡ colored_line color bytes
painted-is look rows None bytes = refl
painted-is look rows (Some color) [] = refl
painted-is look rows (Some color) (b ∷ bs) = refl

-- without its sequences it is the line
pub colored-same : (color : Option Color) (bytes : List ℕ) → IfSome color ShowsNothing → NoneBroken (pieces bytes) → AreSame (colored_line color bytes) bytes
colored-same None bytes silent whole = record { one = record { whole = whole; left = refl }; other = record { whole = whole; left = refl } }
colored-same (Some color) [] silent whole = AreSame-nothing
colored-same (Some color) (b ∷ bs) silent whole = around color silent (b ∷ bs) whole

-- ---- without colours

module _ (wanted : Wanted) (input : List ℕ) (none : wanted.colors ≡ []) where
  pub output-uncolored : output_of wanted input ≡ asked_text wanted.style wanted.limit (cell_parts input)
  unfolding output_of
  output-uncolored =
      ap (λ (colors : List (ℕ × Color)). colored_text wanted.style wanted.limit (cell_color colors) (cell_parts input)) none
      ∙ text-uncolored wanted.style wanted.limit (cell_parts input)

  pub picture-uncolored : picture wanted input ≡ picture_without_colors wanted (styled (pieces input))
  unfolding picture picture_without_colors
  picture-uncolored =
      let rows = rows_of character_of (styled (pieces input)) in
      ap (λ (colors : List (ℕ × Color)). colored_items wanted.style wanted.limit (cell_color colors) rows (cell_parts input)) none
      ∙ items-uncolored wanted.style wanted.limit rows (cell_parts input)

pub uncolored-same : (wanted : Wanted) → wanted.colors ≡ [] → record wanted { colors = [] } ≡ wanted
uncolored-same wanted none = ap (λ (colors : List (ℕ × Color)). record wanted { colors = colors }) (sym none)
