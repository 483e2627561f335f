use Rattle.std.proofs.Common.{ap, ◌∙◌, get_or, arith}
use Rattle.std.specs.Cow.{cow_str_bytes}
use Rattle.columns_table.specs.declared.resized_cell.ResizedCell.{ResizedCell}
use Rattle.columns_table.proofs.ResizedRows.{kept-cell, lent}
use Rattle.columns_table.proofs.resized.ResizedRows.cell.Goals as goal

pub returns : goal.returns
returns c =
    let rows = c.args.self.now in
    let found = c.get-cell.ensures.lookup.4 (omega arith) rows.lacking in
    ap (λ (cell : ResizedCell). cow_str_bytes cell.text)
    (ap (λ one. one.now) c.unwrap_or.ensures ∙ lent c.get-cell.result _ ∙ found ∙ ap (λ row. get_or row c.args.pos.col rows.lacking) c.row.ensures)
    ∙ kept-cell rows.starts.items rows.cells.items c.args.pos rows.lacking rows.empty
