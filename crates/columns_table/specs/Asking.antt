-- The table in a requested width as a whole: the grid that it is drawn from, and the narrowest that its cells leave.
use Rattle.std.specs.Prelude.{ℕ, List, None, map}
use Rattle.grid_config.specs.Compact.{Compact}
use Rattle.grid_config.specs.Looks.{compact_look}
use Rattle.papergrid_picture.specs.Blocks.{Grid}
use Rattle.papergrid_picture.specs.Frame.{Frame, frame_of}
use Rattle.papergrid_picture.specs.Tables.{table_grid}
use Rattle.columns_asked.specs.DrawnTables.{asked_widths, heights_of, resized_rows, paddings, widths_of}
use Rattle.columns_asked.specs.declared.asked.WidthLimit.{WidthLimit}

-- the table of these texts where each column has no more than the paddings beside a text
abbrev pub narrowest_frame : Compact → List (List (List ℕ)) → Frame
narrowest_frame style texts = frame_of (compact_look style) (map (λ _. paddings style) (widths_of style texts)) (heights_of style texts)

-- the grid that the table in a requested width is drawn from; its frame is `asked_frame`
abbrev pub asked_grid : Compact → WidthLimit → List (List (List ℕ)) → Grid
asked_grid style asked texts =
    table_grid (compact_look style) (resized_rows style asked texts) (λ _. None) (asked_widths style asked texts) (heights_of style (resized_rows style asked texts))
