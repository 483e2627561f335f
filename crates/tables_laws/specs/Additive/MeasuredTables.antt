-- Tables of additive characters.
use Rattle.std.specs.Prelude.{◌≡◌, ◌<◌, ℕ, List, Ok, length}
use Rattle.ansi_str.specs.Characters.{shown_chars}
use Rattle.grid_config_values.specs.Spans.Spans.{ArePositive, extent_at}
use Rattle.grid_config_values.specs.declared.spans.extent.Extent.{Extent}
use Rattle.grid_config_values.specs.declared.position.Position.{Position}
use Rattle.tables_laws.specs.Characters.AdditiveCharacters.{is_additive}
use Rattle.grid_records_measure.specs.Measures.{measure}
use Rattle.tables_laws.specs.Grids.CountedLooks.{TakesOnes}
use Rattle.tables_laws.specs.Grids.TextsOf.{AreAdditiveTexts}
use Rattle.papergrid_picture.specs.Colors.ClosingColors.{ShowNothing}
use Rattle.tabled_steps.specs.States.{State, column_count}
use Rattle.tabled_list.specs.Stripping.Printing.{IsFitsAnswer}
use Rattle.tabled_list.specs.Stripping.Totals.{drawn_line}

-- a table with rows and columns whose cells take what these spans say, that can be printed: its texts show additive
-- characters, each glyph and fill is one of one column, and the colours are sequences alone
pub record IsMeasured (spans : List (Position × Extent)) (s : State) : Type 0 where
  pub extents : s.look.extent ≡ extent_at spans
  pub positive : ArePositive spans
  pub some_rows : 0 < length s.rows
  pub some_columns : 0 < column_count s.rows
  pub fits : IsFitsAnswer s (Ok tt)
  pub look : TakesOnes is_additive s.look
  pub cells : ShowNothing s.colors
  pub texts : AreAdditiveTexts s.rows

-- what the characters of line y measure as one text
abbrev pub measured_columns : State → ℕ → ℕ
measured_columns s y = measure (shown_chars (drawn_line s y))
