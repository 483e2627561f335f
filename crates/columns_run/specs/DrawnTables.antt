-- The table of a text: what the program writes for it, and what that shows.
use Rattle.std.specs.Prelude.{ℕ, List, [], ◌∷◌, Option, None, Some, map, chars, encode_utf8_all, flat_map}
use Rattle.ansi_scan.specs.Pieces.{pieces}
use Rattle.ansi_str.specs.StyledText.{styled}
use Rattle.ansi_str_search.specs.Text.Characters.{shown_chars}
use Rattle.columns_asked.specs.WidthLimits.{Resize}
use Rattle.columns_asked.specs.DrawnTables.{AskedInRange, asked_characters, asked_picture, asked_widths, heights_of, resized_rows, narrowed, resize_in, too_wide}
use Rattle.columns_asked.specs.Colors.ColoredTables.{colored_items, colored_text}
use Rattle.columns_asked.specs.Colors.ColumnColors.{cell_color}
use Rattle.grid_config.specs.Colors.{Color}
use Rattle.grid_config.specs.Looks.{compact_look}
use Rattle.grid_config_values.specs.declared.position.Position.{Position}
use Rattle.grid_records_measure.specs.Measures.{line_cost, measure}
use Rattle.papergrid_picture.specs.Colors.ColoredLines.{with_painted_lines}
use Rattle.papergrid_picture.specs.Blocks.{Content, Fill, Glyph, Grid, TextLine}
use Rattle.papergrid_picture.specs.Picture.{PlacedPart, picture_line}
use Rattle.papergrid_picture.specs.Reading.{part_items}
use Rattle.papergrid_picture.specs.Shown.{Styled, character_of}
use Rattle.papergrid_picture.specs.Tables.{in_bytes, in_color, table_grid}
use Rattle.columns_run.specs.Rows.{cell_parts, rows_of, stripped}
use Rattle.columns_run.specs.Wanted.{Wanted}

-- ---- by bytes

-- the bytes of the table of a text, where each cell is a part of it with its own bytes, and in the colour of its column
unfoldable pub output_of : Wanted → List ℕ → List ℕ
output_of wanted input = colored_text wanted.style wanted.limit (cell_color wanted.colors) (cell_parts input)

-- ---- by its parts

-- what is done to the cells of a column
unfoldable pub resize_of : Wanted → List ℕ → ℕ → Resize
resize_of wanted input column = resize_in wanted.style wanted.limit (narrowed wanted.style wanted.limit (cell_parts input)) column

-- the texts of the cells once they are resized
unfoldable pub resized_texts : Wanted → List ℕ → List (List (List ℕ))
resized_texts wanted input = resized_rows wanted.style wanted.limit (cell_parts input)

-- the grid that the table of a text is drawn from: where its lines and their parts are
unfoldable pub grid_of : Wanted → List ℕ → Grid
grid_of wanted input =
    let kept = resized_texts wanted input in
    table_grid (compact_look wanted.style) kept (λ _. None) (asked_widths wanted.style wanted.limit (cell_parts input)) (heights_of wanted.style kept)

-- a line of a cell in the cell's colour: one without bytes stays so
abbrev pub colored_line : Option Color → List ℕ → List ℕ
colored_line None bytes = bytes
colored_line (Some color) [] = []
colored_line (Some color) (b ∷ bs) = in_color color (b ∷ bs)

-- the bytes of a part: a glyph and a fill have those of their character in each of their columns, and a line of a cell
-- has its own in the cell's colour
unfoldable pub placed_bytes : Wanted → List ℕ → PlacedPart → List ℕ
placed_bytes wanted input placed = part_items (with_painted_lines (in_bytes (compact_look wanted.style) (resized_texts wanted input)) (cell_color wanted.colors)) placed.part

-- the columns of what content shows: a glyph and a fill have those of their characters, one by one, and a line of a
-- cell has what it measures as one text
abbrev pub content_columns : Content → List ℕ → ℕ
content_columns (Fill c) bytes = line_cost (shown_chars bytes)
content_columns (Glyph c) bytes = line_cost (shown_chars bytes)
content_columns (TextLine cell k) bytes = measure (shown_chars bytes)

unfoldable pub placed_columns : Wanted → List ℕ → PlacedPart → ℕ
placed_columns wanted input placed = content_columns placed.part.content (placed_bytes wanted input placed)

-- line y of the table
abbrev pub line_bytes : Wanted → List ℕ → ℕ → List ℕ
line_bytes wanted input y = flat_map (placed_bytes wanted input) (picture_line (grid_of wanted input) y)

-- ---- with styles

-- the characters alone
abbrev pub characters_of : List Styled → List ℕ
characters_of styled = map character_of styled

-- the cells of a text of these characters, without styles
abbrev pub encoded_cells : List ℕ → List (List (List ℕ))
encoded_cells characters = map (map encode_utf8_all) (rows_of (λ c. c) characters)

-- the picture of a text of these characters without colours: its boundaries, fills, line feeds and each U+FFFD that is
-- put in are in the plain style
unfoldable pub picture_without_colors : Wanted → List Styled → List Styled
picture_without_colors wanted styled = asked_picture wanted.style wanted.limit (rows_of character_of styled)

-- the picture of a text: the same of the characters that it shows, except in a line of a cell whose column has a
-- colour. There each character, also U+FFFD, has the style which the colour's prefix leaves and the sequences of the
-- line before it then change
unfoldable pub picture : Wanted → List ℕ → List Styled
picture wanted input = colored_items wanted.style wanted.limit (cell_color wanted.colors) (rows_of character_of (styled (pieces input))) (cell_parts input)

-- ---- without styles

-- the characters of the table of a text of these characters
unfoldable pub table_characters : Wanted → List ℕ → List ℕ
table_characters wanted characters = asked_characters wanted.style wanted.limit (rows_of (λ c. c) characters)

-- the table's width and height fit a `usize`, before its cells are resized and after it, and so does each size, since
-- no size passes its total
unfoldable pub TableInRange : Wanted → List ℕ → Type 0
TableInRange wanted text = AskedInRange wanted.style wanted.limit (encoded_cells (chars (stripped text)))

-- the first cell by row, then column, with a line that takes more columns than its column has
unfoldable pub wide_cell : Wanted → List ℕ → Option Position
wide_cell wanted text = too_wide wanted.style wanted.limit (encoded_cells (chars (stripped text)))
