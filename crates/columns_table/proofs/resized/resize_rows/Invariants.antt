use Rattle.std.proofs.Common.{◌≡◌, ◌++◌, All, drop}
use Rattle.columns_table.specs.CellRows.{row_cells}
use Rattle.columns_table.specs.Resized.{resized_row}
use Rattle.columns_table.specs.ResizedTexts.{cells_texts}
use Rattle.columns_table.specs.Records.{IsSingleLineCell}
use Rattle.columns_table.proofs.ResizedRows.{all_texts}
use Rattle.columns_table.proofs.resized.resize_rows.Given as goal

-- with what is still to come the cells are those of all rows
abbrev pub invariant-loop-count : goal.invariant-loop-count
invariant-loop-count l = record {
  texts : cells_texts l.kept.items ++ all_texts (resized_row l.asked l.beside l.widths) (drop l.count-index l.rows.counts.items) (row_cells l.rest)
      ≡ all_texts (resized_row l.asked l.beside l.widths) l.rows.counts.items l.rows.cells;
  measured : All IsSingleLineCell (row_cells l.rest);
}
