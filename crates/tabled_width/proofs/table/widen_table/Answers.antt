use Rattle.std.proofs.Common.{◌≡◌, ◌<◌, ℕ, arith, length, refl, sym}
use Rattle.grid_config.specs.Looks.{look_of}
use Rattle.grid_records.specs.RecordRows.Sources.{columns_of}
use Rattle.grid_records_traits.specs.Sources.{texts_of_rows}
use Rattle.tabled_steps.proofs.Changing.{count_texts}
use Rattle.tabled_steps.specs.States.{Outcome, State, column_count, state_with}
use Rattle.tabled_width.specs.WholeTables.Steps.{Measured}
use Rattle.tabled_width.specs.WholeTables.Tables.{Widens, has_cells}
use Rattle.tabled_width.proofs.Stepping.{measured_steps}
use Rattle.tabled_width.proofs.Tabling.{some_cells, where_holds}
use Rattle.tabled_width.proofs.table.widen_table.Goals as goal

pub returns-clause-step : goal.returns-clause-step
returns-clause-step g c = λ colors.
    let look = look_of c.args.cfg.now in
    let rows = texts_of_rows g.T.Cell.text c.args.records.now.rows.items in
    let columns : columns_of c.args.records.now.rows.items ≡ column_count rows = sym (count_texts g.T.Cell.text c.args.records.now.rows.items) in
    let some : 0 < length rows = omega (arith, c.count_rows.ensures, c.if-count_rows-eq0.false) in
    let more : 0 < column_count rows = omega (arith, c.count_columns.ensures, columns, c.if-count_columns-eq0.false) in
    let old = state_with rows look colors c.args.dims.now in
    let new = state_with (texts_of_rows g.T.Cell.text c.args.records.now.rows.items) look colors c.widen.new.dims in
    let measures = g.W.Measurement.measures c.args.width.now in
    let step : ℕ → State → Outcome → Type 0 = Widens g.P.Peaker.grows c.args.priority in
    where_holds has_cells (Measured measures step) c.widen.result old new (some_cells (length rows) (column_count rows) some more)
    (measured_steps measures step old (columns_of c.args.records.now.rows.items) look columns refl c.in_ok-asked.asked c.widen.result new c.in_ok-asked.ensures (c.widen.ensures colors))
