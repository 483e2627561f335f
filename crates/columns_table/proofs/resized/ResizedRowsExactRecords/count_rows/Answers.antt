use Rattle.std.proofs.Common.{sym, ◌∙◌}
use Rattle.columns_table.proofs.ResizedRows.{length-kept}
use Rattle.columns_table.proofs.resized.ResizedRowsExactRecords.count_rows.Goals as goal

pub returns : goal.returns
returns c =
    let rows = c.args.self.now in
    c.len.ensures ∙ rows.starts.ok.0 ∙ sym (length-kept rows.starts.items rows.cells.items)
