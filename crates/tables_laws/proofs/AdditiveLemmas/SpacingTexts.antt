-- The lines of texts of characters that take a column or two cost what they measure.
use Rattle.std.proofs.Common.{◌≡◌, ◌<◌, ℕ, Bool, true, false, List, [], ◌∷◌, Ok, length}
use Rattle.std.specs.List.{AllByRecursion, list_all}
use Rattle.ansi_str.specs.Characters.{shown_chars}
use Rattle.grid_config.specs.Looks.{Look}
use Rattle.grid_config_values.specs.Spans.Spans.{ArePositive, extent_at}
use Rattle.grid_config_values.specs.declared.spans.extent.Extent.{Extent}
use Rattle.grid_config_values.specs.declared.position.Position.{Position}
use Rattle.tables_laws.specs.Characters.AdditiveCharacters.{is_spacing}
use Rattle.tables_laws.proofs.CharactersLemmas.Sums.{cost-spacing}
use Rattle.grid_records_measure.specs.TextLines.{text_lines}
use Rattle.grid_records_measure.specs.Trimming.{trimmed}
use Rattle.grid_records_traits.specs.Rows.{text_at}
use Rattle.tables_laws.specs.Grids.TextsOf.{AreTextsOf, IsTextOf}
use Rattle.tables_laws.proofs.GridsLemmas.EvenLines.{text-of}
use Rattle.tables_laws.proofs.GridsLemmas.Texts.{parts-of_text, trimmed-of}
use Rattle.papergrid_picture.specs.Colors.ClosingColors.{ShowNothing}
use Rattle.papergrid_picture.proofs.Shown.{IsClosedPart, lines-closed_parts}
use Rattle.tabled_steps.specs.States.{State, column_count}
use Rattle.tabled_list.specs.Stripping.Printing.{IsFitsAnswer}
use Rattle.tables_laws.specs.Shown.CountedTables.{AddsUpInLines, AddsUpTrimmed, CountsOnes, IsCounted, TextsAddUp}

line-adds : (trims : Bool) (line : List ℕ) → IsClosedPart line → list_all is_spacing (shown_chars line) ≡ true → AddsUpTrimmed trims line
line-adds true line closed all = (cost-spacing (shown_chars line) all, cost-spacing (shown_chars (trimmed line)) (trimmed-of is_spacing line closed all))
line-adds false line closed all = (cost-spacing (shown_chars line) all, cost-spacing (shown_chars line) all)

lines-add : (trims : Bool) (lines : List (List ℕ)) → AllByRecursion IsClosedPart lines → AllByRecursion (λ line. list_all is_spacing (shown_chars line) ≡ true) lines → AllByRecursion (AddsUpTrimmed trims) lines
lines-add trims [] closed all = tt
lines-add trims (line ∷ lines) closed all = (line-adds trims line closed.0 all.0, lines-add trims lines closed.1 all.1)

pub text-adds : (trims : Bool) (text : List ℕ) → IsTextOf is_spacing text → AddsUpInLines trims text
text-adds trims text is = record { whole = is.whole; lines = lines-add trims (text_lines text) (lines-closed_parts text is.whole) (parts-of_text is_spacing text is) }

pub spacing-adds : (look : Look) (rows : List (List (List ℕ))) → AreTextsOf is_spacing rows → TextsAddUp look rows
spacing-adds look rows texts cell = text-adds (look.trim_horizontal cell) (text_at rows cell) (text-of is_spacing rows texts cell)

pub spacing-counted : (spans : List (Position × Extent)) (s : State) → s.look.extent ≡ extent_at spans → ArePositive spans → CountsOnes s.look → ShowNothing s.colors → AreTextsOf is_spacing s.rows
    → 0 < length s.rows → 0 < column_count s.rows → IsFitsAnswer s (Ok tt) → IsCounted spans s
spacing-counted spans s extents positive counts cells texts some_rows some_columns fits = record {
  extents = extents;
  positive = positive;
  some_rows = some_rows;
  some_columns = some_columns;
  fits = fits;
  counts = counts;
  cells = cells;
  texts = spacing-adds s.look s.rows texts;
}
