use Rattle.std.proofs.Common.{subst}
use Rattle.grid_config_values.specs.Settings.{value_at}
use Rattle.grid_config.specs.Looks.{look_of}
use Rattle.grid_config.specs.Settings.{Settings}
use Rattle.grid_records_traits.specs.Sources.{texts_of_rows}
use Rattle.tabled_steps.specs.States.{Steps, state_with}
use Rattle.tabled_width_texts.specs.WrappedOrCut.{wrapping_each, wrapping_others}
use Rattle.tabled_width.specs.WholeTables.Tables.{NarrowsTable}
use Rattle.tabled_width.proofs.Sparing.{narrows_table, spared}
use Rattle.tabled_width.proofs.wrap.WrapTableOptionVecRecordsColoredConfigCompleteDimension.change.Goals as goal

pub returns-clause-step : goal.returns-clause-step
returns-clause-step g c =
    let keep_words = c.args.self.keep_words in
    let colors = value_at c.args.cfg.now.colors in
    let measures = g.W.Measurement.measures c.args.self.width in
    let old = state_with (texts_of_rows g.T.Cell.text c.args.records.now.rows.items) (look_of c.args.cfg.now.settings) colors c.args.dims.now in
    let new = state_with (texts_of_rows g.T.Cell.text c.narrow_table.new.records.rows.items) (look_of c.args.cfg.now.settings) colors c.narrow_table.new.dims in
    let done = subst (λ (settings : Settings). Steps (NarrowsTable g.P.Peaker.shrinks c.args.self.priority (wrapping_others keep_words) measures) c.narrow_table.result
    (state_with (texts_of_rows g.T.Cell.text c.args.records.now.rows.items) (look_of settings) colors c.args.dims.now)
    (state_with (texts_of_rows g.T.Cell.text c.narrow_table.new.records.rows.items) (look_of settings) colors c.narrow_table.new.dims)) c.spanned.ensures (c.narrow_table.ensures.step colors) in
    narrows_table g.P.Peaker.shrinks c.args.self.priority (wrapping_others keep_words) (wrapping_each keep_words) (spared keep_words) measures c.narrow_table.result old new done
