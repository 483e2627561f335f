-- Tables that are to be no wider than so many columns.
use Rattle.std.specs.Prelude.{◌≡◌, ◌<◌, ℕ, List, Ok, Result, length, sum}
use Rattle.ansi_str.specs.Characters.{shown_chars}
use Rattle.grid_config_values.specs.declared.fault.Fault.{Fault}
use Rattle.grid_config_values.specs.Spans.Spans.{ArePositive}
use Rattle.grid_config.specs.Looks.{Look, look_of}
use Rattle.grid_config.specs.Settings.{Settings}
use Rattle.grid_records_measure.specs.Measures.{line_cost}
use Rattle.papergrid_picture.specs.Colors.ClosingColors.{AreClosing}
use Rattle.papergrid_picture.specs.Shown.{ArePlainlyShown, CostsOne, IsBare, ShowsOnly}
use Rattle.tabled_size_priority.specs.Shrinking.{shrunk_sum}
use Rattle.tabled_steps.specs.States.{State, column_count}
use Rattle.tabled_width.specs.Rooms.{empty_widths}
use Rattle.tabled_width.specs.Widths.{width_with_columns}
use Rattle.tabled.specs.Printing.{IsFitsAnswer}
use Rattle.tabled.specs.Totals.{drawn_line}

-- a table has settings: its look is theirs, and each of their spans takes at least one row and one column
pub record HasSettings (s : State) : Type 0 where
  pub settings : Settings
  pub look : s.look ≡ look_of settings
  pub spans : ArePositive settings.spans

-- a table of these settings, with rows and columns, that can be printed. Its look is bare. Its cells have no
-- colours but such as close, and show plain characters and line feeds. Each glyph, fill and character for
-- justification costs one column
pub record IsPlainlyPrinted (settings : Settings) (s : State) : Type 0 where
  pub look : s.look ≡ look_of settings
  pub spans : ArePositive settings.spans
  pub closing : AreClosing s.colors
  pub some_rows : 0 < length s.rows
  pub some_columns : 0 < column_count s.rows
  pub fits : IsFitsAnswer s (Ok tt)
  pub bare : IsBare s.look
  pub ones : ShowsOnly CostsOne s.look
  pub texts : ArePlainlyShown s.rows

-- the columns that line y of what it prints takes
abbrev pub line_columns : State → ℕ → ℕ
line_columns s y = line_cost (shown_chars (drawn_line s y))

-- what it takes in the empty widths of its columns, with boundaries and margins
abbrev pub empty_total : State → ℕ
empty_total s = width_with_columns s.look (empty_widths s.look (column_count s.rows) (length s.rows))

-- a measurement gives this width of the table, and no other
abbrev pub GivesOnly : (ℕ → List (List (List ℕ)) → Look → Result ℕ Fault → Type 0) → State → ℕ → Type 0
GivesOnly measures s width = (size : Result ℕ Fault) → measures (column_count s.rows) s.rows s.look size → size ≡ Ok width

-- a priority takes from widths all that is requested, or all that is above their leasts
abbrev pub TakesAll : {P : Type 0} → (P → List ℕ → ℕ → List ℕ → P → List ℕ → Type 0) → Type 0
TakesAll {P} shrinks =
    (before : P) (least : List ℕ) (by : ℕ) (widths : List ℕ) (after : P) (left : List ℕ) → shrinks before least by widths after left → sum left ≡ shrunk_sum least widths by
