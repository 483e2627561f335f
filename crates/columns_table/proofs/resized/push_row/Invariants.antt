use Rattle.std.proofs.Common.{◌≡◌, ◌-◌, ◌++◌, drop, slice_index}
use Rattle.columns_asked.specs.DrawnTables.{by_column}
use Rattle.columns_asked.specs.Resizing.{resized_text}
use Rattle.columns_table.specs.CellRows.{row_cells}
use Rattle.columns_table.specs.Resized.{resized_row, resize_to}
use Rattle.columns_table.specs.ResizedTexts.{cells_texts}
use Rattle.columns_table.specs.Rows.{cell_texts}
use Rattle.columns_table.proofs.resized.push_row.Given as goal

-- with what is still to come the cells of the row are appended
abbrev pub invariant-loop-column : goal.invariant-loop-column
invariant-loop-column l =
    cells_texts l.kept.items ++ by_column (λ column. resized_text (resize_to l.asked (slice_index l.widths column - l.beside))) l.column (drop l.column (cell_texts (row_cells l.row)))
    ≡ cells_texts l.initial.kept.items ++ resized_row l.asked l.beside l.widths (cell_texts (row_cells l.row))
