use Rattle.std.proofs.Common.{refl, ◌∙◌}
use Rattle.std.proofs.lemmas.Result.{err_from_is_err_and}
use Rattle.grid_config_values.specs.Settings.{value_at}
use Rattle.tabled.proofs.Fitting.{drawn_here, refused_here}
use Rattle.tabled.proofs.table_of.TableOf.drawn_sizes.Goals as goal

pub returns-in_err-complete_sizes-clause-refused : goal.returns-in_err-complete_sizes-clause-refused
returns-in_err-complete_sizes-clause-refused g c =
    let table = c.args.self.now in
    let config = c.args.config.now in
    let p = err_from_is_err_and c.from_residual-in_err-complete_sizes.result c.from_residual-in_err-complete_sizes.ensures.1 in
    rw (p.1, p.2)
    (refused_here config (g.R.RecordTexts.rows table.records) (value_at table.config.colors) table.dimension config (g.R.RecordColumns.columns table.records) refl (g.met.R.TableRecords.counted table.records)
    c.in_ok-sizes.sizes c.in_ok-sizes.ensures.sizes c.in_err-complete_sizes.field-0.0 c.in_err-complete_sizes.ensures.refused)

pub returns-clause-sizes : goal.returns-clause-sizes
returns-clause-sizes g c =
    let table = c.args.self.now in
    let config = c.args.config.now in
    c.in_ok-complete_sizes.ensures.completed
    ∙ drawn_here config (g.R.RecordTexts.rows table.records) (value_at table.config.colors) table.dimension config (g.R.RecordColumns.columns table.records) refl (g.met.R.TableRecords.counted table.records)
    c.in_ok-sizes.sizes c.in_ok-sizes.ensures.sizes
