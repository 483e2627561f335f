use Rattle.std.proofs.Common.{◌∙◌, ap}
use Rattle.std.proofs.lemmas.Result.{err_from_is_err_and}
use Rattle.grid_config_values.specs.Settings.{value_at}
use Rattle.grid_records_estimate.specs.Collecting.{PassesMax}
use Rattle.tabled.specs.Printing.{drawn_heights}
use Rattle.tabled.specs.Tables.{table_state}
use Rattle.tabled_size.specs.Dimension.Stored.{Stored}
use Rattle.tabled.proofs.Fitting.{heights_passed}
use Rattle.tabled.proofs.TotalWidths.{heights_here, heights_refused, heights_refused_for}
use Rattle.tabled.proofs.table_of.TableOf.sized_heights.Goals as goal

pub returns-in_err-complete_sizes-clause-refused : goal.returns-in_err-complete_sizes-clause-refused
returns-in_err-complete_sizes-clause-refused g c =
    let table = c.args.self.now in
    let p = err_from_is_err_and c.from_residual-in_err-complete_sizes.result c.from_residual-in_err-complete_sizes.ensures.1 in
    rw (p.1, p.2)
    (heights_refused table.config.settings (g.R.RecordTexts.rows table.records) (value_at table.config.colors) table.dimension c.spanned.result.now (g.R.RecordColumns.columns table.records) c.spanned.ensures (g.met.R.TableRecords.counted table.records)
    c.in_ok-sizes.sizes c.set_widths.new.self c.new.result.items c.in_ok-sizes.ensures.sizes c.set_widths.ensures c.in_err-complete_sizes.field-0.0 c.in_err-complete_sizes.ensures.refused)

pub returns-clause-heights : goal.returns-clause-heights
returns-clause-heights g c =
    let table = c.args.self.now in
    ap (λ (sizes : Stored). sizes.heights) c.in_ok-complete_sizes.ensures.completed
    ∙ heights_here table.config.settings (g.R.RecordTexts.rows table.records) (value_at table.config.colors) table.dimension c.spanned.result.now (g.R.RecordColumns.columns table.records) c.spanned.ensures (g.met.R.TableRecords.counted table.records)
    c.in_ok-sizes.sizes c.set_widths.new.self c.new.result.items c.in_ok-sizes.ensures.sizes c.set_widths.ensures

pub returns-in_err-complete_sizes-clause-passed : goal.returns-in_err-complete_sizes-clause-passed
returns-in_err-complete_sizes-clause-passed g c =
    let table = c.args.self.now in
    let texts = g.R.RecordTexts.rows table.records in
    let p = err_from_is_err_and c.from_residual-in_err-complete_sizes.result c.from_residual-in_err-complete_sizes.ensures.1 in
    rw (p.1, p.2)
    (heights_refused_for table.config.settings texts (value_at table.config.colors) table.dimension c.spanned.result.now (g.R.RecordColumns.columns table.records) c.spanned.ensures (g.met.R.TableRecords.counted table.records)
    c.in_ok-sizes.sizes c.set_widths.new.self c.new.result.items (PassesMax (drawn_heights (table_state g.R.RecordTexts.rows table))) (heights_passed table.config.settings texts (value_at table.config.colors) table.dimension)
    c.in_ok-sizes.ensures.sizes c.set_widths.ensures c.in_err-complete_sizes.field-0.0 c.in_err-complete_sizes.ensures.refused)
