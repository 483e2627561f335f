use Rattle.std.proofs.Common.{Ok, ap, refl, sym}
use Rattle.std.proofs.lemmas.Result.{err_from_is_err_and}
use Rattle.std.specs.Option.{option_map}
use Rattle.grid_config_values.specs.Settings.{value_at}
use Rattle.grid_config.specs.Looks.{look_of}
use Rattle.grid_records.specs.RecordRows.Sources.{columns_of}
use Rattle.grid_records_traits.specs.Sources.{texts_of_rows}
use Rattle.tabled_steps.proofs.Changing.{count_texts}
use Rattle.tabled_steps.specs.States.{State}
use Rattle.tabled_height.proofs.Resizing.{asked-done, asked-none, asked-refused}
use Rattle.tabled_height.specs.Steps.{GrownRows, keeping_heights}
use Rattle.tabled_height.proofs.increase.TableHeightIncreaseTableOptionVecRecordsColoredConfigCompleteDimension.change.Goals as goal

pub returns-in_err-asked-clause-step : goal.returns-in_err-asked-clause-step
returns-in_err-asked-clause-step g c =
    let p = err_from_is_err_and c.from_residual.result c.from_residual.ensures.1 in
    let rows = c.args.records.now.rows.items in
    rw (p.1, p.2) (
      refl,
      asked-refused (g.W.Measurement.measures c.args.self.height) (GrownRows g.P.Peaker.grows c.args.self.priority) keeping_heights (texts_of_rows g.T.Cell.text rows) c.args.cfg.now.settings c.spanned.result.now
          (value_at c.args.cfg.now.colors) c.args.dims.now (columns_of rows) (sym (count_texts g.T.Cell.text rows)) c.spanned.ensures c.in_err-asked.field-0.0 c.in_err-asked.ensures.asks,
    )

pub returns-in_default-clause-step : goal.returns-in_default-clause-step
returns-in_default-clause-step g c =
    let rows = c.args.records.now.rows.items in
    asked-none (g.W.Measurement.measures c.args.self.height) (GrownRows g.P.Peaker.grows c.args.self.priority) keeping_heights (texts_of_rows g.T.Cell.text rows) c.args.cfg.now.settings c.spanned.result.now
    (value_at c.args.cfg.now.colors) c.args.dims.now (columns_of rows) (sym (count_texts g.T.Cell.text rows)) c.spanned.ensures (rw c.in_default.is at c.in_ok-asked.ensures.asks)

pub returns-clause-step : goal.returns-clause-step
returns-clause-step g c =
    let rows = c.args.records.now.rows.items in
    let look = look_of c.args.cfg.now.settings in
    let colors = value_at c.args.cfg.now.colors in
    asked-done (g.W.Measurement.measures c.args.self.height) (GrownRows g.P.Peaker.grows c.args.self.priority) keeping_heights (texts_of_rows g.T.Cell.text rows) c.args.cfg.now.settings c.spanned.result.now
    colors c.args.dims.now (columns_of rows) (sym (count_texts g.T.Cell.text rows)) c.spanned.ensures
    (Ok (tt {0})) c.in-Some.rows.heights.items c.in-Some.rows.lines c.in-Some.height (option_map (λ list. list.items) c.grown.result) _
    (rw c.in-Some.is at c.in_ok-asked.ensures.asks) c.grown.ensures (ap (λ (s : State). Ok s) (c.keep_heights.ensures (texts_of_rows g.T.Cell.text rows) look colors))
