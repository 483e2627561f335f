-- A table of rows of texts in a requested width, where cells have colours: its text, and its picture.
use Rattle.std.specs.Prelude.{ℕ, List, Option}
use Rattle.columns_asked.specs.declared.asked.WidthLimit.{WidthLimit}
use Rattle.columns_asked.specs.DrawnTables.{asked_frame, asked_widths, ended, heights_of, resized_cells, resized_rows, texts_in}
use Rattle.grid_config.specs.Colors.{Color}
use Rattle.grid_config.specs.Compact.{Compact}
use Rattle.grid_config.specs.Looks.{compact_look}
use Rattle.grid_config_values.specs.declared.position.Position.{Position}
use Rattle.grid_records_measure.specs.TextLines.{line_feed}
use Rattle.papergrid_picture.specs.Colors.ColoredPicture.{colored_picture}
use Rattle.papergrid_picture.specs.Frame.{frame_of}
use Rattle.papergrid_picture.specs.Shown.{Styled, character_of, in_plain}
use Rattle.papergrid_picture.specs.Tables.{table_text}

module _ (style : Compact) (asked : WidthLimit) (colors : Position → Option Color) where
  -- its text, where each line ends with a line feed: that of the table without colours, except that each line of a
  -- coloured cell which has bytes is between the texts of the colour
  unfoldable pub colored_text : List (List (List ℕ)) → List ℕ
  colored_text texts =
      ended line_feed (asked_frame style asked texts)
      (table_text (compact_look style) (resized_rows style asked texts) colors (asked_widths style asked texts) (heights_of style (resized_rows style asked texts)))

  -- its picture: that of the table without colours, except that the lines of a coloured cell are read from the bytes
  -- that are kept of it, each from the style which the prefix of the colour leaves
  unfoldable pub colored_items : List (List (List Styled)) → List (List (List ℕ)) → List Styled
  colored_items rows texts =
      let cells = resized_cells character_of in_plain style asked rows in
      let widths = asked_widths style asked (texts_in character_of in_plain rows) in
      let heights = heights_of style (texts_in character_of in_plain cells) in
      ended (in_plain line_feed) (frame_of (compact_look style) widths heights)
      (colored_picture (compact_look style) cells (resized_rows style asked texts) colors widths heights)
