use Rattle.std.proofs.Common.{arith, inr, refl, sym, ◌∙◌, length}
use Rattle.grid_config_values.specs.Settings.{value_at}
use Rattle.tabled_steps.specs.States.{column_count}
use Rattle.tabled.proofs.TotalWidths.{height_here, no_height, none_total, some_cells, some_total}
use Rattle.tabled.proofs.table_of.TableOf.total_height.Goals as goal

pub returns-then-is_empty-clause-total : goal.returns-then-is_empty-clause-total
returns-then-is_empty-clause-total g c =
    let table = c.args.self.now in
    sym (no_height table.config.settings (g.R.RecordTexts.rows table.records) (value_at table.config.colors) table.dimension (sym c.is_empty.ensures ∙ c.if-is_empty.true))

pub returns-in-Some-clause-total : goal.returns-in-Some-clause-total
returns-in-Some-clause-total g c =
    let table = c.args.self.now in
    let texts = g.R.RecordTexts.rows table.records in
    let cells = some_cells (length texts) (column_count texts) (sym c.is_empty.ensures ∙ c.if-is_empty.false) in
    some_total _ _ c.total_height.result c.in-Some.total c.in-Some.is c.total_height.ensures
    ∙ height_here table.config.settings texts (value_at table.config.colors) table.dimension c.spanned.result.now (column_count texts) c.spanned.ensures refl c.count_rows.result c.in_ok-sizes.sizes.heights c.in_ok-sizes.ensures.heights c.count_rows.ensures cells.0 cells.1

pub returns-clause-refused : goal.returns-clause-refused
returns-clause-refused g c =
    let table = c.args.self.now in
    let texts = g.R.RecordTexts.rows table.records in
    let cells = some_cells (length texts) (column_count texts) (sym c.is_empty.ensures ∙ c.if-is_empty.false) in
    let total = height_here table.config.settings texts (value_at table.config.colors) table.dimension c.spanned.result.now (column_count texts) c.spanned.ensures refl c.count_rows.result c.in_ok-sizes.sizes.heights c.in_ok-sizes.ensures.heights c.count_rows.ensures cells.0 cells.1 in
    inr (refl, omega (arith, total, none_total _ c.total_height.result c.in-None.is c.total_height.ensures))
