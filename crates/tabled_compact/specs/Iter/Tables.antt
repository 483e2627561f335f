-- A streamed table by what it is, and what it prints.
use Rattle.std.specs.Prelude.{◌≡◌, ℕ, ◌+◌, List, Option, None, Result, length, take}
use Rattle.grid_config_values.specs.declared.fault.Fault.{Fault}
use Rattle.grid_config.specs.Compact.{Compact, compact_of}
use Rattle.grid_config.specs.Looks.{compact_look}
use Rattle.grid_records.specs.RecordRows.Truncating.{truncated_rows}
use Rattle.grid_records_traits.specs.Rows.{evened}
use Rattle.papergrid_picture.specs.Fitting.{FitsAnswer}
use Rattle.papergrid_picture.specs.Frame.{Frame, frame_of}
use Rattle.papergrid_picture.specs.Tables.{sizes_of, table_text}
use Rattle.tabled_compact.specs.Tables.{begun_settings, first_or_all, no_colors}
use Rattle.tabled_size.specs.Dimension.Sizes.{GivenSizes, given_size}
use Rattle.tabled_size.specs.Dimension.Stored.{none_stored}
use Rattle.tabled_steps.specs.States.{State, state_with}
use Rattle.tabled_compact.specs.Iter.Content.{columns_or, heights_or, widths_or}
use Rattle.tabled_compact.specs.declared.iter.table.IterTable.{IterTable}

-- ---- what it is

-- the rows of its source and its settings. Of its shape are set: how many columns it has, how many rows are sniffed,
-- how many rows it keeps, and the width and the height of its content
pub record Streamed : Type 0 where
  pub rows : List (List (List ℕ))
  pub settings : Compact
  pub columns : Option ℕ
  pub sniff : ℕ
  pub kept : Option ℕ
  pub width : Option ℕ
  pub height : Option ℕ

abbrev pub streamed : {I : Type 0} → (I → List (List (List ℕ))) → IterTable I → Streamed
streamed rows table = record {
  rows = rows table.records;
  settings = compact_of table.config;
  columns = table.shape.columns;
  sniff = table.shape.sniff;
  kept = table.shape.kept;
  width = table.shape.width;
  height = table.shape.height;
}

-- a table that no call has changed yet: a thousand rows are sniffed
abbrev pub begun : List (List (List ℕ)) → Streamed
begun rows = record { rows = rows; settings = begun_settings; columns = None; sniff = 1000; kept = None; width = None; height = None }

-- what its options see
abbrev pub state_for_options : Streamed → State
state_for_options table = state_with table.rows (compact_look table.settings) (λ _. None) none_stored

-- an option changes the rows of the source and the settings, and nothing else
pub record KeepsShape (before after : Streamed) : Type 0 where
  pub columns : after.columns ≡ before.columns
  pub sniff : after.sniff ≡ before.sniff
  pub kept : after.kept ≡ before.kept
  pub width : after.width ≡ before.width
  pub height : after.height ≡ before.height

-- ---- what it prints

module _ (table : Streamed) where
  -- the first rows of the source, whether they are kept or not
  abbrev pub sniffed : List (List (List ℕ))
  sniffed = take table.sniff table.rows

  abbrev pub stream_columns : ℕ
  stream_columns = columns_or table.columns sniffed

  -- without paddings
  abbrev pub content_widths : GivenSizes
  content_widths = widths_or table.width stream_columns sniffed

  abbrev pub content_heights : GivenSizes
  content_heights = heights_or table.height table.width stream_columns (first_or_all table.kept sniffed)

  -- the rows that are kept, each of as many cells as there are columns. A cell that is wider than
  -- the content of its column is cut
  abbrev pub shown_rows : List (List (List ℕ))
  shown_rows = evened stream_columns (truncated_rows (given_size content_widths) (first_or_all table.kept table.rows))

  -- with the paddings at the sides, and those above and below
  abbrev pub width_at : ℕ → ℕ
  width_at column = given_size content_widths column + (table.settings.padding.left.size + table.settings.padding.right.size)

  abbrev pub height_at : ℕ → ℕ
  height_at row = given_size content_heights row + (table.settings.padding.top.size + table.settings.padding.bottom.size)

  abbrev pub widths : List ℕ
  widths = sizes_of width_at stream_columns

  abbrev pub heights : List ℕ
  heights = sizes_of height_at (length shown_rows)

  abbrev pub frame : Frame
  frame = frame_of (compact_look table.settings) widths heights

  -- its text: its picture in bytes
  abbrev pub printed : List ℕ
  printed = table_text (compact_look table.settings) shown_rows no_colors widths heights

  -- whether it fits, refused as `Range` or `Room`, in this order
  abbrev pub IsFitsAnswer : Result (Unit {0}) Fault → Type 0
  IsFitsAnswer answer = FitsAnswer frame shown_rows (Unit {0}) answer
