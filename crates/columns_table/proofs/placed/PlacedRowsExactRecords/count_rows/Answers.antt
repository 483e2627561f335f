use Rattle.std.proofs.Common.{sym, ◌∙◌}
use Rattle.columns_table.proofs.PlacedRows.{length-placed}
use Rattle.columns_table.proofs.placed.PlacedRowsExactRecords.count_rows.Goals as goal

pub returns : goal.returns
returns c =
    let rows = c.args.self.now in
    c.len.ensures ∙ rows.starts.ok.0 ∙ sym (length-placed rows.starts.items rows.cells)
