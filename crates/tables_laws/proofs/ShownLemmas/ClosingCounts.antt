-- A look that is closing, of glyphs and fills that take one column, counts ones; so tables of plain characters are
-- counted, in any colours that close.
use Rattle.std.proofs.Common.{◌≡◌, ◌<◌, List, Ok, Option, None, Some, length}
use Rattle.grid_config.specs.Colors.{Color}
use Rattle.grid_config.specs.Looks.{Look}
use Rattle.grid_config_values.specs.Spans.Spans.{ArePositive, extent_at}
use Rattle.grid_config_values.specs.declared.spans.extent.Extent.{Extent}
use Rattle.grid_config_values.specs.declared.position.Position.{Position}
use Rattle.papergrid_picture.specs.Colors.ClosingColors.{AreClosing}
use Rattle.papergrid_picture.proofs.ColorsLemmas.Lines.{closing-shows_nothing}
use Rattle.papergrid_picture.proofs.ColorsLemmas.Stripped.{closing-show_nothing}
use Rattle.papergrid_picture.specs.Shown.{ArePlainlyShown, BeginsNoSequence, CostsOne, ShowsOnly}
use Rattle.tabled_steps.specs.States.{State, column_count}
use Rattle.tabled_list.specs.Stripping.Printing.{IsFitsAnswer}
use Rattle.tables_laws.specs.Shown.ClosingLooks.{ClosesIfSet, IsClosingLook, IsNoControl}
use Rattle.tables_laws.specs.Shown.CountedTables.{CountsOnes, IsCounted, ShowsNothingIfSet}
use Rattle.tables_laws.proofs.ShownLemmas.AllEven.{texts-add}
use Rattle.tables_laws.proofs.ShownLemmas.Looks.{colored-also, shows-also}
use Rattle.tables_laws.proofs.ShownLemmas.Signs.{no_control-begins}

pub closing-counts : (look : Look) → IsClosingLook look → ShowsOnly CostsOne look → CountsOnes look
closing-counts look closing ones = record {
  shown = shows-also IsNoControl BeginsNoSequence no_control-begins look closing.shown;
  ones = ones;
  colors = colored-also ClosesIfSet ShowsNothingIfSet silent look closing.colors;
}
  where
    silent : (color : Option Color) → ClosesIfSet color → ShowsNothingIfSet color
    silent None is = tt
    silent (Some color) is = closing-shows_nothing color is

pub plain-counted : (spans : List (Position × Extent)) (s : State) → s.look.extent ≡ extent_at spans → ArePositive spans → IsClosingLook s.look → ShowsOnly CostsOne s.look → AreClosing s.colors
    → ArePlainlyShown s.rows → 0 < length s.rows → 0 < column_count s.rows → IsFitsAnswer s (Ok tt) → IsCounted spans s
plain-counted spans s extents positive look ones colors plain some_rows some_columns fits = record {
  extents = extents;
  positive = positive;
  some_rows = some_rows;
  some_columns = some_columns;
  fits = fits;
  counts = closing-counts s.look look ones;
  cells = closing-show_nothing s.colors colors;
  texts = texts-add s plain;
}
