-- Cells of a styled text as they are gathered: one after the other in their own text, each before one ASCII character.
use Rattle.std.specs.Prelude.{◌≡◌, ℕ, ◌-◌, ◌<◌, List, [], ◌∷◌, ◌++◌, IsTrue, IsUtf8, length, map, string_bytes, take}
use Rattle.ansi_scan.specs.Attributes.{Attributes}
use Rattle.ansi_scan.specs.StartsAndEnds.{start_bytes, end_bytes}
use Rattle.ansi_str_search.specs.declared.places.Place.{Place}
use Rattle.grid_records_measure.specs.TextLines.{line_width}
use Rattle.columns_table.specs.Ends.{cells_in}
use Rattle.columns_table.specs.RowEnds.{EndedRows, no_rows, row_ended, with_cell}
use Rattle.columns_run.specs.Cells.{Line, line_of_cell}
use Rattle.columns_run.specs.declared.styled_rows.CellStop.{CellStop}
use Rattle.columns_run.specs.declared.styled_rows.Gathering.{Gathering}
use Rattle.columns_run.specs.declared.styled_rows.StyledCells.{StyledCells}

-- the part of a text from here, where this style is known, to an end, where that style is open, as a part that opens
-- and ends its own styles
abbrev pub part_between : List ℕ → Attributes → List ℕ → Attributes → List ℕ
part_between rest style end end_style = start_bytes style ++ (take (length rest - length end) rest ++ end_bytes end_style)

-- the part between two places of a text
abbrev pub part_up_to : Place → Place → List ℕ
part_up_to place end = part_between place.rest.now place.style end.rest.now end.style

-- where all that the part shows up to this end is printable, it takes a column for each byte
abbrev pub IsMeasuredBy : CellStop → List ℕ → Type 0
IsMeasuredBy end part = IsTrue end.printable → line_width part ≡ end.size

-- cells on the way: their text so far, and where they end in it
pub record GatheredCells : Type 0 where
  pub text : List ℕ
  pub rows : EndedRows

abbrev pub nothing_gathered : GatheredCells
nothing_gathered = record { text = []; rows = no_rows }

-- the cells as lines
abbrev pub gathered_lines : GatheredCells → List Line
gathered_lines cells = map line_of_cell (cells_in cells.text cells.rows.ends)

abbrev pub styled_cell_lines : StyledCells → List Line
styled_cell_lines cells = gathered_lines (record { text = string_bytes cells.text; rows = cells.rows })

abbrev pub all_gathered : Gathering → GatheredCells
all_gathered cells = record { text = string_bytes cells.text; rows = cells.rows }

-- where the text that is read is passed up to `rest`, what is kept of it comes after what is copied
abbrev pub gathered_to : Gathering → List ℕ → GatheredCells
gathered_to cells rest = record { text = string_bytes cells.text ++ take (length cells.kept.now - length rest) cells.kept.now; rows = cells.rows }

-- what is kept ends with this rest of the text
abbrev pub KeptEndsWith : Gathering → List ℕ → Type 0
KeptEndsWith cells rest = (slice : List ℕ) × (cells.kept.now ≡ slice ++ rest)

-- a part is one more cell, and one ASCII character is after it
pub record AddsCell (old new : GatheredCells) (part : List ℕ) : Type 0 where
  pub separator : ℕ
  pub ascii : separator < 128
  pub utf8 : IsUtf8 part
  pub text : new.text ≡ old.text ++ part ++ separator ∷ []
  pub rows : new.rows ≡ with_cell old.rows (record { end = length (old.text ++ part); width = line_width part })

-- a part is the last cell of its row
abbrev pub EndsRow : GatheredCells → GatheredCells → List ℕ → Type 0
EndsRow old new part = (pushed : GatheredCells) × AddsCell old pushed part × (new ≡ record { text = pushed.text; rows = row_ended pushed.rows })
