use Rattle.std.proofs.Common.{arith}
use Rattle.grid_records_traits.specs.SingleLines.{texts_at}
use Rattle.grid_records_traits.proofs.Starts.{length-texts_at}
use Rattle.columns_table.proofs.ResizedCells.{length-cells}
use Rattle.columns_table.proofs.cell_row.CellRow.len.Goals as goal

pub returns-clause-cells : goal.returns-clause-cells
returns-clause-cells c =
    let row = c.args.self in
    omega (arith, c.saturating_sub.ensures, length-cells row.widths.now (texts_at row.text.now row.starts.now), length-texts_at row.text.now row.starts.now)
