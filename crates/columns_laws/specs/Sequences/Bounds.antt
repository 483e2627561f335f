-- How many bytes the sequences of a text take, and how many lines of cells a table has.
use Rattle.std.specs.Prelude.{ℕ, ◌+◌, List, [], ◌∷◌, None, Option, Some, codes, false, length}
use Rattle.std.specs.List.{sum_by}
use Rattle.ansi_scan.specs.Pieces.{pieces}
use Rattle.ansi_str.specs.Walking.{sequences}
use Rattle.columns_asked.specs.Worked.{wraps}
use Rattle.columns_asked.specs.Colors.ColumnColors.{column_color}
use Rattle.columns_asked.specs.Colors.Worked.{only, red}
use Rattle.program_options.specs.Columns.Settings.{default_settings}
use Rattle.columns_run.specs.Wanted.{Wanted}
use Rattle.grid_config.specs.Colors.{Color}
use Rattle.grid_records_measure.specs.TextLines.{text_height, text_lines}
use Rattle.tabled_size_priority.specs.declared.choice.Choice.TheVariants.{None as InTurns}

-- the bytes of all its sequences
abbrev pub sequence_byte_count : List ℕ → ℕ
sequence_byte_count text = length (sequences (pieces text))

-- the lines of all cells, each in its own row; a cell without text has one
abbrev pub count_cell_lines : List (List (List ℕ)) → ℕ
count_cell_lines rows = sum_by (λ row. sum_by text_height row) rows

-- what a line of a cell may take beside the input's sequences:
-- 163 bytes are the longest start of a style, and 80 the longest end
abbrev pub start_and_end : ℕ
start_and_end = 243

-- ---- colours of columns

-- what a colour adds to a line: its texts are round one that has bytes
abbrev pub color_around : Option Color → List ℕ → ℕ
color_around color [] = 0
color_around None (b ∷ bs) = 0
color_around (Some color) (b ∷ bs) = length color.prefix + length color.suffix

-- what the colours of columns add to the cells of a row, the first of which is in this column
abbrev pub row_colors : List (ℕ × Color) → ℕ → List (List ℕ) → ℕ
row_colors colors column [] = 0
row_colors colors column (text ∷ texts) = sum_by (color_around (column_color colors column)) (text_lines text) + row_colors colors (column + 1) texts

-- what they add to all cells
abbrev pub color_bytes : List (ℕ × Color) → List (List (List ℕ)) → ℕ
color_bytes colors rows = sum_by (row_colors colors 0) rows

-- ---- a table that can be worked out by hand

-- wrapped in five columns, of which a text has one
abbrev pub in_five_columns : Wanted
in_five_columns = record { style = default_settings; limit = wraps 5 false InTurns; colors = [] }

-- three letters, each after a sequence that is bold
abbrev pub bold_letters : List ℕ
bold_letters = codes "\u{1b}[1ma\u{1b}[1mb\u{1b}[1mc\n"

-- the same with its column in red
abbrev pub red_in_five_columns : Wanted
red_in_five_columns = record in_five_columns { colors = only 0 red }
