-- What the lines of a cell hold, once they are read.
use Rattle.std.specs.Prelude.{ℕ, List, map}
use Rattle.std.specs.Cow.{cow_str_bytes}
use Rattle.papergrid_cells.specs.declared.cell_lines.CellLine.{CellLine}

abbrev pub line_texts : List CellLine → List (List ℕ)
line_texts lines = map (λ line. cow_str_bytes line.text) lines

abbrev pub line_measures : List CellLine → List ℕ
line_measures lines = map (λ line. line.width) lines
