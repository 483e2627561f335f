-- How much a table takes as a whole.
use Rattle.std.specs.Prelude.{ℕ, List}
use Rattle.papergrid_picture.specs.Fitting.{table_width}
use Rattle.papergrid_picture.specs.Frame.{line_count}
use Rattle.papergrid_picture.specs.Tables.{table_line}
use Rattle.tabled_steps.specs.States.{State}
use Rattle.tabled_list.specs.Stripping.Printing.{drawn_frame, drawn_heights, drawn_widths}

module _ (s : State) where
  -- the columns of each of its lines in the sizes that are drawn, and its lines, margins too: none
  -- without rows or columns
  abbrev pub drawn_width : ℕ
  drawn_width = table_width (drawn_frame s)

  abbrev pub drawn_height : ℕ
  drawn_height = line_count (drawn_frame s)

  -- line y of its text
  abbrev pub drawn_line : ℕ → List ℕ
  drawn_line y = table_line s.look s.rows s.colors (drawn_widths s) (drawn_heights s) y
