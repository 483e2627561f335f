-- Streamed and compact tables, as tables that keep their sizes.
use Rattle.std.specs.Prelude.{ℕ, List, Option, length}
use Rattle.grid_config.specs.Colors.{Color}
use Rattle.grid_config.specs.Looks.{Look, compact_look}
use Rattle.grid_config_values.specs.declared.position.Position.{Position}
use Rattle.papergrid.specs.Compact.{one_line, without_high_padding}
use Rattle.papergrid_picture.specs.Tables.{sizes_of}
use Rattle.tabled_compact.specs.Tables.{Compacted, no_colors, shown_rows as compact_rows}
use Rattle.tabled_compact.specs.Iter.Tables.{Streamed, height_at, shown_rows as streamed_rows, stream_columns, width_at}
use Rattle.tabled_steps.specs.States.{State}
use Rattle.tables_laws.specs.Shown.ShownTables.{sized}

-- the table of rows in columns and rows of sizes by their numbers
abbrev pub grid_state : Look → (ℕ → ℕ) → (ℕ → ℕ) → (Position → Option Color) → ℕ → List (List (List ℕ)) → State
grid_state look width height colors columns rows = sized look rows colors (sizes_of width columns) (sizes_of height (length rows))

-- that of a streamed table: of the rows that it keeps, their texts cut at its widths
abbrev pub streamed_state : Streamed → State
streamed_state table = grid_state (compact_look table.settings) (width_at table) (height_at table) no_colors (stream_columns table) (streamed_rows table)

-- that of a compact table: each row takes one line
abbrev pub compacted_state : Compacted → State
compacted_state table = grid_state (compact_look (without_high_padding table.settings)) table.width one_line no_colors table.columns (compact_rows table)
