use Rattle.std.proofs.Common.{rules}
use Rattle.basinmug_bounded.proofs.OfCells.{in-column}
use Rattle.basinmug_bounded.specs.Cells.{AreRecords, given_by}
use Rattle.basinmug_bounded.proofs.cells.rows_of_cells.Goals as goal

pub fault_of-requires : goal.fault_of-requires
fault_of-requires c =
    let are : AreRecords (given_by c.args.cells) = search rules in
    in-column c.args.escapes c.args.records (given_by c.args.cells) c.in-Ok-Err.flawed.cell c.in-Ok-Err.flawed.flaw are (rw c.in-Ok-Err.field-0-is at c.in-Ok-Err.ensures)
