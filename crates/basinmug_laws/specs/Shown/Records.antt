-- Records on their way from a text to a table: as they are read, as they are cleaned, as they are shown, and the widths of their columns.
use Rattle.std.specs.Prelude.{ℕ, ◌-◌, ◌<◌, ◌≤◌, ⊤, List, map, None, Option, Some, fold}
use Rattle.csv.specs.Reading.{records}
use Rattle.grid_config_values.specs.declared.entity.Entity.TheVariants.{Global as EveryCell}
use Rattle.tabled.specs.Printing.{drawn_widths}
use Rattle.tabled.specs.Tables.{new_state}
use Rattle.tabled.specs.Totals.{drawn_width}
use Rattle.tabled_list.specs.declared.setting.Setting.{Setting}
use Rattle.tabled_list.specs.declared.setting.Setting.TheVariants.{AlignHorizontal, Borders, Color, LineAlignment, TrimHorizontal}
use Rattle.tabled_size.specs.Dimension.Stored.{none_stored}
use Rattle.tabled_steps.specs.Changes.{changed_rows}
use Rattle.tabled_steps.specs.Looks.{covering, with_alignment_horizontal, with_borders, with_line_alignment, with_trim_horizontal}
use Rattle.tabled_steps.specs.States.{State, column_count}
use Rattle.tabled_text.specs.Rows.{filled}
use Rattle.basinmug_columns.specs.Rooms.{AreShrunkWidths}
use Rattle.basinmug_columns.specs.declared.rows.RowsShown.{RowsShown}
use Rattle.basinmug_input.specs.Cleaning.{cleaned}
use Rattle.basinmug_input.specs.Reading.{settings}
use Rattle.basinmug_input.specs.Rows.{text_of_bytes}
use Rattle.program_options.specs.declared.basinmug.Escapes.{Escapes}
use Rattle.basinmug_run.specs.declared.options.Options.{Options}
use Rattle.basinmug_run.specs.Picture.Fitting.{fitted, trims}
use Rattle.basinmug_run.specs.Picture.Pictures.{asked_settings, cells_in, narrowed_to, needs_in}

-- rows of texts, each the list of its bytes
abbrev pub Rows : Type 0
Rows = List (List (List ℕ))

-- ---- as they are read

-- the records of a text whose fields this byte separates, after a byte order mark (RFC 4180, section 2)
abbrev pub records_read : ℕ → List ℕ → Rows
records_read delimiter bytes = records (settings delimiter) (text_of_bytes bytes)

-- ---- as they are cleaned

-- each field with its control characters made visible, and of its escape sequences those that take effect
abbrev pub records_cleaned : Escapes → ℕ → List ℕ → Rows
records_cleaned escapes delimiter bytes = map (map (cleaned escapes)) (records_read delimiter bytes)

-- ---- settings

-- a table whose lines are these, whose texts are aligned so, or with a colour for these cells; what a run does not request stays
abbrev pub with_setting : State → Setting → State
with_setting s (Borders glyphs) = record s { look = with_borders glyphs s.look }
with_setting s (AlignHorizontal at place) = record s { look = with_alignment_horizontal at place s.look }
with_setting s (LineAlignment at on) = record s { look = with_line_alignment at on s.look }
with_setting s (TrimHorizontal at on) = record s { look = with_trim_horizontal at on s.look }
with_setting s (Color at color) = record s { colors = covering at (Some color) s.colors }
with_setting s _ = s

-- one after the other, so that the last decides
abbrev pub with_settings : List Setting → State → State
with_settings settings s = fold with_setting s settings

module _ (options : Options) (shown : RowsShown) (rows : Rows) where
  -- ---- as they are shown

  -- the records that are shown, each of as many cells as the longest has, with a row of ellipses where others are left out between them; those
  -- of a document are escaped and have a header
  abbrev pub cells : Rows
  cells = filled (cells_in options shown rows)

  -- their table as wide as their texts: its lines, and where the texts of each column are, and in which colour
  abbrev pub wide_table : State
  wide_table = with_settings (asked_settings options rows) (new_state cells)

  abbrev pub wide_columns : List ℕ
  wide_columns = drawn_widths wide_table

  -- in narrowed widths of their columns, if there are any: a text that is wider than its column is cut or wrapped
  abbrev pub records_shown : Option (List ℕ) → Rows
  records_shown None = cells
  records_shown (Some rooms) = changed_rows (λ place. fitted options.truncate wide_columns rooms place.col) EveryCell (column_count cells) cells

  -- ---- narrowed widths of columns

  -- none without a requested width, or where the table is no wider; else those that the priority makes of its widths
  abbrev pub AreRoomsIn : Option ℕ → Option (List ℕ) → Type 0
  AreRoomsIn None None = ⊤
  AreRoomsIn None (Some rooms) = ⊥
  AreRoomsIn (Some width) None = drawn_width wide_table ≤ width
  AreRoomsIn (Some width) (Some rooms) =
      (width < drawn_width wide_table)
      × AreShrunkWidths options.priority (needs_in options.header rows) (drawn_width wide_table - width) wide_columns rooms

  abbrev pub AreRooms : Option (List ℕ) → Type 0
  AreRooms rooms = AreRoomsIn (narrowed_to options) rooms

  -- ---- the table

  -- of the records as they are shown; the lines of wrapped texts are trimmed
  abbrev pub table_in : Option (List ℕ) → State
  table_in None = wide_table
  table_in (Some rooms) = with_settings (trims options.truncate wide_columns rooms) (record wide_table { rows = records_shown (Some rooms); sizes = none_stored })
