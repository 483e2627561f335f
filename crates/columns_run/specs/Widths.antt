-- How many columns the table of an input takes, with its boundaries and margins; none without rows.
use Rattle.std.specs.Prelude.{ℕ, List}
use Rattle.columns_asked.specs.DrawnTables.{frame_under}
use Rattle.columns_table.specs.Asking.{narrowest_frame}
use Rattle.papergrid_picture.specs.Fitting.{table_width}
use Rattle.columns_run.specs.DrawnTables.{grid_of}
use Rattle.columns_run.specs.Rows.{cell_parts}
use Rattle.columns_run.specs.Wanted.{Wanted}

-- as it is printed
abbrev pub taken_columns : Wanted → List ℕ → ℕ
taken_columns wanted input = table_width (grid_of wanted input).frame

-- as it is without a width
abbrev pub natural_columns : Wanted → List ℕ → ℕ
natural_columns wanted input = table_width (frame_under wanted.style (cell_parts input))

-- where each column has no more than the paddings beside a text
abbrev pub narrowest_columns : Wanted → List ℕ → ℕ
narrowest_columns wanted input = table_width (narrowest_frame wanted.style (cell_parts input))
