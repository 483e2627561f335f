-- The text of a table with a line feed after its last line.
use Rattle.std.specs.Prelude.{◌==◌, if◌then◌else◌, ℕ, Bool, List, [], ◌∷◌, ◌++◌, Option}
use Rattle.grid_config.specs.Colors.{Color}
use Rattle.grid_config.specs.Looks.{Look}
use Rattle.grid_config_values.specs.declared.position.Position.{Position}
use Rattle.grid_records_measure.specs.TextLines.{line_feed}
use Rattle.papergrid_picture.specs.Frame.{frame_of, line_count}
use Rattle.papergrid_picture.specs.Tables.{table_text}
use Rattle.papergrid_print.specs.Sheets.{Sheet, line_count_of, whole_text}

-- what ends the last of so many lines
abbrev pub line_end : ℕ → List ℕ
line_end n = if n == 0 then [] else line_feed ∷ []

-- the text of a table, and a line feed after its last line, where it has one
abbrev pub ended_text : Look → List (List (List ℕ)) → (Position → Option Color) → List ℕ → List ℕ → List ℕ
ended_text look rows colors widths heights = table_text look rows colors widths heights ++ line_end (line_count (frame_of look widths heights))

-- the same of a sheet, if its last line is to be ended
abbrev pub written_lines : Sheet → Bool → List ℕ
written_lines sheet ended = whole_text sheet ++ (if ended then line_end (line_count_of sheet) else [])
