-- The tables of the library that the program's are.
use Rattle.std.specs.Prelude.{◌≡◌, ℕ, List, None, Option, length, map}
use Rattle.std.specs.List.{AllByRecursion}
use Rattle.grid_config.specs.Colors.{Color}
use Rattle.grid_config.specs.Compact.{Compact}
use Rattle.grid_config.specs.Looks.{compact_look}
use Rattle.grid_config_values.specs.declared.entity.Entity.TheVariants.{Column}
use Rattle.grid_config_values.specs.declared.position.Position.{Position}
use Rattle.grid_records_measure.specs.TextLines.{line_feed}
use Rattle.tabled_compact.specs.Iter.Tables.{Streamed, begun, frame, printed as streamed_text}
use Rattle.tabled_list.specs.declared.setting.Setting.{Setting}
use Rattle.tabled_list.specs.declared.setting.Setting.TheVariants.{Color as Colored}
use Rattle.tabled_size.specs.Dimension.Stored.{none_stored}
use Rattle.tabled_steps.specs.States.{State, state_with}
use Rattle.tabled_list.specs.Stripping.Printing.{drawn_frame, printed}
use Rattle.tabled_text.specs.Rows.{filled}
use Rattle.columns_asked.specs.DrawnTables.{ended}
use Rattle.columns_asked.specs.Colors.ColumnColors.{cell_color}
use Rattle.columns_run.specs.Rows.{cell_parts}
use Rattle.columns_run.specs.Wanted.{Wanted}

-- rows of as many cells each
abbrev pub AreRowsOfLength : ℕ → List (List (List ℕ)) → Type 0
AreRowsOfLength columns rows = AllByRecursion (λ row. length row ≡ columns) rows

-- the table of these rows under a compact style, whose cells have these colours; no size is kept
abbrev pub table_under : Compact → (Position → Option Color) → List (List (List ℕ)) → State
table_under style colors rows = state_with rows (compact_look style) colors none_stored

-- the table of the rows of a text, the short ones filled as a builder fills them, in the requested colours of columns
abbrev pub table_of : Wanted → List ℕ → State
table_of wanted input = table_under wanted.style (cell_color wanted.colors) (filled (cell_parts input))

-- the same before any column has a colour
abbrev pub uncolored_table_of : Wanted → List ℕ → State
uncolored_table_of wanted input = table_under wanted.style (λ _. None) (filled (cell_parts input))

-- a setting for each colour of a column, in their order
abbrev pub color_settings : List (ℕ × Color) → List Setting
color_settings colors = map (λ given. Colored (Column given.0) given.1) colors

-- what it prints, with a line feed after its last line too
abbrev pub ended_table : State → List ℕ
ended_table s = ended line_feed (drawn_frame s) (printed s)

-- the streamed table of these rows under a compact style that sniffs so many of them, and otherwise is as it was begun
abbrev pub sniffing : ℕ → Compact → List (List (List ℕ)) → Streamed
sniffing count style rows = record (begun rows) { settings = style; sniff = count }

abbrev pub ended_stream : Streamed → List ℕ
ended_stream table = ended line_feed (frame table) (streamed_text table)
