use Rattle.std.proofs.Common.{arith, inr, refl, sym, ◌∙◌, length}
use Rattle.grid_config_values.specs.Settings.{value_at}
use Rattle.tabled_steps.specs.States.{column_count}
use Rattle.tabled.proofs.TotalWidths.{no_width, none_total, some_cells, some_total, width_here}
use Rattle.tabled.proofs.table_of.TableOf.total_width.Goals as goal

pub returns-then-is_empty-clause-total : goal.returns-then-is_empty-clause-total
returns-then-is_empty-clause-total g c =
    let table = c.args.self.now in
    sym (no_width table.config.settings (g.R.RecordTexts.rows table.records) (value_at table.config.colors) table.dimension (sym c.is_empty.ensures ∙ c.if-is_empty.true))

pub returns-in-Some-clause-total : goal.returns-in-Some-clause-total
returns-in-Some-clause-total g c =
    let table = c.args.self.now in
    let texts = g.R.RecordTexts.rows table.records in
    let cells = some_cells (length texts) (column_count texts) (sym c.is_empty.ensures ∙ c.if-is_empty.false) in
    some_total _ _ c.full_line_width.result c.in-Some.total c.in-Some.is c.full_line_width.ensures
    ∙ width_here table.config.settings texts (value_at table.config.colors) table.dimension c.spanned.result.now c.count_columns.result c.spanned.ensures c.count_columns.ensures c.in_ok-sizes.sizes.widths c.in_ok-sizes.ensures.widths cells.0
    (omega (arith, cells.1, c.count_columns.ensures))

pub returns-clause-refused : goal.returns-clause-refused
returns-clause-refused g c =
    let table = c.args.self.now in
    let texts = g.R.RecordTexts.rows table.records in
    let cells = some_cells (length texts) (column_count texts) (sym c.is_empty.ensures ∙ c.if-is_empty.false) in
    let total = width_here table.config.settings texts (value_at table.config.colors) table.dimension c.spanned.result.now c.count_columns.result c.spanned.ensures c.count_columns.ensures c.in_ok-sizes.sizes.widths c.in_ok-sizes.ensures.widths cells.0
    (omega (arith, cells.1, c.count_columns.ensures)) in
    inr (refl, omega (arith, total, none_total _ c.full_line_width.result c.in-None.is c.full_line_width.ensures))
