use Rattle.std.proofs.Common.{◌≤◌, length, sym, arith}
use Rattle.std.proofs.lemmas.Option.{slice_get_past}
use Rattle.columns_table.specs.CellRows.{row_cells}
use Rattle.columns_table.proofs.cell_row.CellRow.get.Goals as goal

pub returns-then-column-len : goal.returns-then-column-len
returns-then-column-len c =
    let past : length (row_cells c.args.self) ≤ c.args.column = omega (arith, c.if-column-len.true, c.len.ensures.cells) in
    sym (slice_get_past (row_cells c.args.self) c.args.column past)

pub returns : goal.returns
returns c = sym c.cell.ensures
