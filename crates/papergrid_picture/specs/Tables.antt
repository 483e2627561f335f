-- The text of a table: its picture in bytes.
use Rattle.std.specs.Prelude.{ℕ, List, [], ◌++◌, Option, map, slice_index_or, encode_utf8}
use Rattle.std.specs.List.{range_with_len}
use Rattle.grid_config_values.specs.declared.position.Position.{Position}
use Rattle.grid_config.specs.Colors.{Color}
use Rattle.grid_config.specs.Looks.{Look}
use Rattle.grid_records_traits.specs.Rows.{text_at}
use Rattle.papergrid_picture.specs.Frame.{frame_of}
use Rattle.papergrid_picture.specs.Blocks.{Grid}
use Rattle.papergrid_picture.specs.CellLines.{cell_lines, cell_measures}
use Rattle.papergrid_picture.specs.Reading.{Reading, grid_items, grid_line, grid_lines}

-- the first n sizes, by number
abbrev pub sizes_of : (ℕ → ℕ) → ℕ → List ℕ
sizes_of size n = map size (range_with_len 0 n)

-- bytes in a colour: its prefix before them, and its suffix after them
abbrev pub in_color : Color → List ℕ → List ℕ
in_color color bytes = color.prefix ++ (bytes ++ color.suffix)

module _ (look : Look) (rows : List (List (List ℕ))) where
  -- rows of texts with these sizes, and with colours of their cells
  abbrev pub table_grid : (Position → Option Color) → List ℕ → List ℕ → Grid
  table_grid colors widths heights = record {
    frame = frame_of look widths heights;
    measures = λ cell. cell_measures (look.trim_horizontal cell) (look.trim_vertical cell) (text_at rows cell);
    text_color = colors;
  }

  -- a line of a cell has its own bytes
  abbrev pub in_bytes : Reading ℕ
  in_bytes = record {
    item = encode_utf8;
    line = λ cell k. slice_index_or (cell_lines (look.trim_horizontal cell) (look.trim_vertical cell) (text_at rows cell)) k [];
    paint = in_color;
  }

  abbrev pub table_text : (Position → Option Color) → List ℕ → List ℕ → List ℕ
  table_text colors widths heights = grid_items in_bytes (table_grid colors widths heights)

  -- its first n lines
  abbrev pub table_lines : (Position → Option Color) → List ℕ → List ℕ → ℕ → List ℕ
  table_lines colors widths heights n = grid_lines in_bytes (table_grid colors widths heights) n

  -- its line y
  abbrev pub table_line : (Position → Option Color) → List ℕ → List ℕ → ℕ → List ℕ
  table_line colors widths heights y = grid_line in_bytes (table_grid colors widths heights) y
