-- Rows that are equally long are filled already.
use Rattle.std.proofs.Common.{◌≡◌, ◌∙◌, ap, subst, sym, true, arith}
use Rattle.grid_records.specs.RecordRows.Sources.{AreEquallyLong}
use Rattle.grid_records_traits.specs.Sources.{texts_of_rows}
use Rattle.tabled.specs.Tables.{new_state}
use Rattle.tabled.proofs.Even.{even_filled, filled-even}
use Rattle.tabled.proofs.table.Table.from_cells.Goals as goal

pub returns-then-are_equally_long-clause-table : goal.returns-then-are_equally_long-clause-table
returns-then-are_equally_long-clause-table g c =
    let long = subst AreEquallyLong c.deref.ensures.value (c.are_equally_long.ensures.0 c.if-are_equally_long.true) in
    c.of_cells.ensures ∙ ap new_state (sym (filled-even g.T.Cell.text c.args.rows.items long))

pub of_cells-requires-2 : goal.of_cells-requires-2
of_cells-requires-2 g c = even_filled g.T.Cell.text c.in_ok-cells.cells.items (texts_of_rows g.T.Cell.text c.args.rows.items) c.in_ok-cells.ensures

pub returns-in_err-cells-clause-equally_long : goal.returns-in_err-cells-clause-equally_long
returns-in_err-cells-clause-equally_long g c = λ long.
    let is : c.are_equally_long.result ≡ true = c.are_equally_long.ensures.1 (subst AreEquallyLong (sym c.deref.ensures.value) long) in
    absurd (grind (arith, is, c.if-are_equally_long.false))
