-- What a part of kept cells holds.
use Rattle.std.specs.Prelude.{List}
use Rattle.grid_records_traits.specs.SingleLines.{texts_at}
use Rattle.columns_table.specs.Cells.{cells_of}
use Rattle.columns_table.specs.declared.cell_row.CellRow.{CellRow}
use Rattle.columns_table.specs.declared.cells.LineCell.{LineCell}

-- its cells
abbrev pub row_cells : CellRow → List LineCell
row_cells row = cells_of row.widths.now (texts_at row.text.now row.starts.now)
