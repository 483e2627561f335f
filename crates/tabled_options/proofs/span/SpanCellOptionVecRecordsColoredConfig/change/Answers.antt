use Rattle.std.proofs.Common.{ap, sym, ◌∙◌}
use Rattle.grid_config_values.specs.Settings.{value_at}
use Rattle.grid_config.specs.Looks.{look_of}
use Rattle.grid_records_traits.specs.Sources.{texts_of_rows}
use Rattle.tabled_steps.proofs.Changing.{count_texts}
use Rattle.tabled_options.specs.Spanning.{spanned_at}
use Rattle.tabled_options.proofs.Spanning.{not-zero, spanned_state}
use Rattle.tabled_options.proofs.span.SpanCellOptionVecRecordsColoredConfig.change.Goals as goal

pub returns-clause-step : goal.returns-clause-step
returns-clause-step g c = λ sizes.
    let rows = c.args.records.now.rows.items in
    spanned_state c.args.self.now c.args.entity (texts_of_rows g.T.Cell.text rows) (value_at c.args.cfg.now.colors) sizes c.args.cfg.now.settings _ c.count_rows-rows.result c.count_columns-columns.result
    c.count_rows-rows.ensures (c.count_columns-columns.ensures ∙ sym (count_texts g.T.Cell.text rows)) (not-zero c.args.self.now.size c.if-self-eq0.false)
    (ap look_of c.replace.ensures.after ∙ c.in_ok-config.ensures.look ∙ ap (λ settings. spanned_at c.args.self.now c.iter.result (look_of settings)) c.spanned.ensures
    ∙ ap (λ places. spanned_at c.args.self.now places (look_of c.args.cfg.now.settings)) c.iter.ensures)
