-- What the lines of a cell that were read hold, and how they are read.
use Rattle.std.specs.Prelude.{ℕ, ◌-◌, Bool, true, false, List, length, drop, slice_index, if◌then◌else◌}
use Rattle.std.specs.List.{prefix_len, suffix_len}
use Rattle.std.specs.Str.{trim}
use Rattle.grid_records_measure.specs.TextLines.{line_measure}
use Rattle.grid_records_measure.specs.Trimming.{trimmed}
use Rattle.papergrid_picture.specs.Blocks.{greatest}
use Rattle.papergrid_picture.specs.CellLines.{is_blank}
use Rattle.papergrid_cells.specs.Lines.{line_measures, line_texts}
use Rattle.papergrid_cells.specs.declared.cell_lines.CellLines.{CellLines}
use Rattle.papergrid_cells.specs.declared.cell_lines.reading.LineFacts.{LineFacts}

abbrev pub texts_of : CellLines → List (List ℕ)
texts_of cell = line_texts cell.lines.items

abbrev pub measures_of : CellLines → List ℕ
measures_of cell = line_measures cell.lines.items

-- how many columns are counted where line k is placed: its own, where lines are aligned one by one, else those of the
-- widest
abbrev pub counted_columns : Bool → List ℕ → ℕ → ℕ
counted_columns line_alignment measures k = if line_alignment then slice_index measures k else greatest measures

-- a line as it is shown, with or without the white space at its ends
abbrev pub line_shown : Bool → List ℕ → List ℕ
line_shown trim_horizontal line = if trim_horizontal then trimmed line else line

-- how many columns a line without its sequences then takes
abbrev pub measure_shown : Bool → List ℕ → ℕ
measure_shown trim_horizontal line = line_measure (if trim_horizontal then trim line else line)

-- what a line without its sequences says of the line
abbrev pub line_facts : Bool → List ℕ → LineFacts
line_facts trim_horizontal line = record { width = measure_shown trim_horizontal line; is_blank = is_blank line }

-- the first of the lines that are kept and their count, by a test for blank ones
abbrev pub kept_by : {X : Type 0} → (X → Bool) → Bool → List X → ℕ × ℕ
kept_by blank false lines = (0, length lines)
kept_by blank true lines =
    let first = prefix_len blank lines in
    let rest = drop first lines in
    (first, length rest - suffix_len blank rest)
