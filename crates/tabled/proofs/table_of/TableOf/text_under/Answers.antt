use Rattle.std.proofs.Common.{◌≡◌, refl, ◌∙◌}
use Rattle.std.proofs.lemmas.Result.{IfOk-weaker}
use Rattle.grid_config_values.specs.Settings.{value_at}
use Rattle.grid_config.specs.Looks.{look_of}
use Rattle.papergrid.specs.Grids.{grid_text}
use Rattle.tabled_size.specs.Dimension.Sizes.{given_size}
use Rattle.tabled_size.specs.Dimension.Stored.{stored_sizes}
use Rattle.tabled.specs.Printing.{printed}
use Rattle.tabled.specs.Tables.{state_under}
use Rattle.tabled.proofs.Fitting.{fails-told, fits-told, fits_given, is_printed}
use Rattle.tabled.proofs.table_of.TableOf.text_under.Goals as goal

pub to_string-requires : goal.to_string-requires
to_string-requires g c =
    let table = c.args.self.now in
    let config = c.args.config.now in
    rw c.new.ensures
    (fits_given config (g.R.RecordTexts.rows table.records) (value_at table.config.colors) table.dimension config c.in_ok-sizes.sizes (g.R.RecordColumns.columns table.records)
    refl c.in_ok-sizes.ensures.sizes (g.met.R.TableRecords.counted table.records) c.in_ok-sizes.ensures.table.fits)

pub returns-clause-text : goal.returns-clause-text
returns-clause-text g c =
    let table = c.args.self.now in
    let config = c.args.config.now in
    let same : grid_text (look_of c.new.result.settings.now) (given_size (stored_sizes c.new.result.sizes.widths)) (given_size (stored_sizes c.new.result.sizes.heights)) (value_at c.new.result.colors.now)
    (g.R.RecordColumns.columns c.new.result.records.now) (g.R.RecordTexts.rows c.new.result.records.now) ≡ printed (state_under g.R.RecordTexts.rows table config) =
    rw (c.new.ensures, c.get_colors.ensures)
    (is_printed config (g.R.RecordTexts.rows table.records) (value_at table.config.colors) table.dimension config c.in_ok-sizes.sizes (g.R.RecordColumns.columns table.records)
    refl c.in_ok-sizes.ensures.sizes (g.met.R.TableRecords.counted table.records)) in
    IfOk-weaker c.to_string-2.result _ _ (λ text e. e ∙ same) c.to_string-2.ensures.text

pub returns-in_err-sizes-clause-table : goal.returns-in_err-sizes-clause-table
returns-in_err-sizes-clause-table g c =
    fails-told (state_under g.R.RecordTexts.rows c.args.self.now c.args.config.now) c.from_residual.result c.in_err-sizes.field-0.0 c.from_residual.ensures.1 c.in_err-sizes.ensures.table.refused

pub returns-clause-table : goal.returns-clause-table
returns-clause-table g c = fits-told (state_under g.R.RecordTexts.rows c.args.self.now c.args.config.now) c.to_string-2.result c.in_ok-sizes.ensures.table.fits c.to_string-2.ensures.fault
