use Rattle.columns_table.proofs.PlacedRows.{single_line_each}
use Rattle.columns_table.proofs.placed.PlacedRowsPeekableRecords.count_lines.Goals as goal

pub returns : goal.returns
returns c =
    let rows = c.args.self.now in
    let one = single_line_each rows.starts.items rows.cells c.args._pos rows.measured in
    one.1.0
