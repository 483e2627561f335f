-- In kept widths `fits` decides; in the least ones only the range can be passed.
use Rattle.std.proofs.Common.{◌∙◌, refl, sym}
use Rattle.std.proofs.lemmas.Bool.{true≢false}
use Rattle.grid_config_values.specs.Settings.{value_at}
use Rattle.tabled.proofs.Fitting.{by_extent, is_fit, least-fit, none-kept, range-told}
use Rattle.tabled.proofs.table_of.TableOf.check_sizes.Goals as goal

pub returns-then-is_some : goal.returns-then-is_some
returns-then-is_some g c =
    let table = c.args.self.now in
    let config = c.args.config.now in
    is_fit config (g.R.RecordTexts.rows table.records) (value_at table.config.colors) table.dimension config c.args.sizes.now (g.R.RecordColumns.columns table.records)
    refl c.requires.drawn (g.met.R.TableRecords.counted table.records) c.fits.result c.fits.ensures.answer

pub returns-then-are_in_range : goal.returns-then-are_in_range
returns-then-are_in_range g c =
    let table = c.args.self.now in
    let config = c.args.config.now in
    let texts = g.R.RecordTexts.rows table.records in
    let told = range-told config texts (value_at table.config.colors) table.dimension c.args.sizes.now c.count_columns-columns.result c.count_rows-rows.result c.are_in_range.result
    c.requires.drawn c.count_columns-columns.ensures c.count_rows-rows.ensures c.are_in_range.ensures in
    least-fit config texts (value_at table.config.colors) table.dimension (none-kept c.get_widths.result table.dimension.widths c.get_widths.ensures (sym c.is_some.ensures ∙ c.if-is_some.false)) c.requires.positive c.requires.good (told.0 c.if-are_in_range.true)

pub returns-else-are_in_range : goal.returns-else-are_in_range
returns-else-are_in_range g c =
    let table = c.args.self.now in
    let config = c.args.config.now in
    let texts = g.R.RecordTexts.rows table.records in
    let told = range-told config texts (value_at table.config.colors) table.dimension c.args.sizes.now c.count_columns-columns.result c.count_rows-rows.result c.are_in_range.result
    c.requires.drawn c.count_columns-columns.ensures c.count_rows-rows.ensures c.are_in_range.ensures in
    (by_extent config.spans _ _ c.requires.good, λ range. true≢false (sym (told.1 range) ∙ c.if-are_in_range.false))
