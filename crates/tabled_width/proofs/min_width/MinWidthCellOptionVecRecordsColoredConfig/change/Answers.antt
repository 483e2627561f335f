use Rattle.std.proofs.Common.{◌≡◌, ℕ, ap, sym}
use Rattle.grid_config_values.specs.Settings.{value_at}
use Rattle.grid_config.specs.Looks.{look_of}
use Rattle.grid_records.specs.RecordRows.Sources.{columns_of}
use Rattle.grid_records_traits.specs.Sources.{texts_of_rows}
use Rattle.tabled_steps.proofs.Changing.{count_texts}
use Rattle.tabled_steps.specs.Changes.{changing}
use Rattle.tabled_steps.specs.States.{Outcome, State, state_with}
use Rattle.tabled_width_texts.specs.Filling.{filling}
use Rattle.tabled_width.proofs.Stepping.{measured_steps}
use Rattle.tabled_width.proofs.min_width.MinWidthCellOptionVecRecordsColoredConfig.change.Goals as goal

pub returns : goal.returns
returns g c = λ sizes.
    let rows = c.args.records.now.rows.items in
    let look = look_of c.args.cfg.now.settings in
    let colors = value_at c.args.cfg.now.colors in
    let step : ℕ → State → Outcome → Type 0 = λ width state outcome. changing (λ _. filling c.args.self.now.fill width) c.args.entity state ≡ outcome in
    measured_steps (g.W.Measurement.measures c.args.self.now.width) step (state_with (texts_of_rows g.T.Cell.text rows) look colors sizes)
    (columns_of rows) (look_of c.spanned.result.now) (sym (count_texts g.T.Cell.text rows)) (ap look_of c.spanned.ensures)
    c.in_ok-width.width c.change_cells.result (state_with (texts_of_rows g.T.Cell.text c.change_cells.new.records.rows.items) look colors sizes)
    c.in_ok-width.ensures (c.change_cells.ensures look colors sizes)
