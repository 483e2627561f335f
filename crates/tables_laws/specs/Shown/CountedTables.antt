-- Tables whose lines take as many columns as their characters do one by one.
use Rattle.std.specs.Prelude.{◌≡◌, ◌<◌, ℕ, Bool, IfSome, List, Ok, Option, if◌then◌else◌, length}
use Rattle.std.specs.List.{AllByRecursion}
use Rattle.ansi_str.specs.Characters.{shown_chars}
use Rattle.grid_config.specs.Colors.{Color}
use Rattle.grid_config.specs.Looks.{Look}
use Rattle.grid_config_values.specs.Spans.Spans.{ArePositive, extent_at}
use Rattle.grid_config_values.specs.declared.spans.extent.Extent.{Extent}
use Rattle.grid_config_values.specs.declared.position.Position.{Position}
use Rattle.grid_records_measure.specs.Measures.{line_cost, measure}
use Rattle.grid_records_measure.specs.TextLines.{text_lines}
use Rattle.grid_records_measure.specs.Trimming.{trimmed}
use Rattle.grid_records_traits.specs.Rows.{text_at}
use Rattle.papergrid_picture.specs.Colors.ClosingColors.{ShowNothing, ShowsNothing}
use Rattle.papergrid_picture.specs.Shown.{BeginsNoSequence, CostsOne, IsColoredBy, IsWholeText, ShowsOnly}
use Rattle.tabled_steps.specs.States.{State, column_count}
use Rattle.tabled_list.specs.Stripping.Printing.{IsFitsAnswer}

-- a line as a cell shows it measures as one text what its characters cost one by one
abbrev pub AddsUp : List ℕ → Type 0
AddsUp line = line_cost (shown_chars line) ≡ measure (shown_chars line)

-- so does the line, and what is left of it with a horizontal trim
abbrev pub AddsUpTrimmed : Bool → List ℕ → Type 0
AddsUpTrimmed trims line = AddsUp line × AddsUp (if trims then trimmed line else line)

-- a whole text each line of which adds up, as it is and as it is shown
pub record AddsUpInLines (trims : Bool) (text : List ℕ) : Type 0 where
  pub whole : IsWholeText text
  pub lines : AllByRecursion (AddsUpTrimmed trims) (text_lines text)

-- each cell has such a text
abbrev pub TextsAddUp : Look → List (List (List ℕ)) → Type 0
TextsAddUp look rows = (cell : Position) → AddsUpInLines (look.trim_horizontal cell) (text_at rows cell)

-- no colour, or one that is sequences alone
abbrev pub ShowsNothingIfSet : Option Color → Type 0
ShowsNothingIfSet color = IfSome color ShowsNothing

-- a look each of whose glyphs, fills and characters for justification begins no sequence and costs one column, and
-- whose colours are sequences alone
pub record CountsOnes (look : Look) : Type 0 where
  pub shown : ShowsOnly BeginsNoSequence look
  pub ones : ShowsOnly CostsOne look
  pub colors : IsColoredBy ShowsNothingIfSet look

-- a table with rows and columns whose cells take what these spans say, that can be printed: its look counts ones, the
-- colours of its cells are sequences alone, and its texts add up
pub record IsCounted (spans : List (Position × Extent)) (s : State) : Type 0 where
  pub extents : s.look.extent ≡ extent_at spans
  pub positive : ArePositive spans
  pub some_rows : 0 < length s.rows
  pub some_columns : 0 < column_count s.rows
  pub fits : IsFitsAnswer s (Ok tt)
  pub counts : CountsOnes s.look
  pub cells : ShowNothing s.colors
  pub texts : TextsAddUp s.look s.rows
