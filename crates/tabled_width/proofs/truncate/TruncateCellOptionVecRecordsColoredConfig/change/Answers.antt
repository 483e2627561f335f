use Rattle.std.proofs.Common.{◌≡◌, ℕ, ap, subst, sym}
use Rattle.grid_config_values.specs.Settings.{value_at}
use Rattle.grid_config.specs.Looks.{look_of}
use Rattle.grid_records.specs.RecordRows.Sources.{columns_of}
use Rattle.grid_records_traits.specs.Sources.{texts_of_rows}
use Rattle.tabled_steps.proofs.Changing.{count_texts}
use Rattle.tabled_steps.specs.Changes.{changing}
use Rattle.tabled_steps.specs.States.{Outcome, State, StepsTo, state_with}
use Rattle.tabled_width_texts.specs.Cutting.{SuffixedCut, truncating}
use Rattle.tabled_width.specs.Options.{truncation}
use Rattle.tabled_width.proofs.Stepping.{measured_steps}
use Rattle.tabled_width.proofs.truncate.TruncateCellOptionVecRecordsColoredConfig.change.Goals as goal

pub returns : goal.returns
returns g c = λ sizes.
    let rows = c.args.records.now.rows.items in
    let look = look_of c.args.cfg.now.settings in
    let colors = value_at c.args.cfg.now.colors in
    let old = state_with (texts_of_rows g.T.Cell.text rows) look colors sizes in
    let new = state_with (texts_of_rows g.T.Cell.text c.change_cells.new.records.rows.items) look colors sizes in
    let step : ℕ → State → Outcome → Type 0 = λ width state outcome. changing (λ _. truncating (truncation c.args.self.now).cutting width) c.args.entity state ≡ outcome in
    let stepped = subst (λ (cutting : SuffixedCut). StepsTo (changing (λ _. truncating cutting c.in_ok-width.width) c.args.entity) c.change_cells.result old new) c.cut.ensures (c.change_cells.ensures look colors sizes) in
    measured_steps (g.W.Measurement.measures c.args.self.now.width) step old
    (columns_of rows) (look_of c.spanned.result.now) (sym (count_texts g.T.Cell.text rows)) (ap look_of c.spanned.ensures)
    c.in_ok-width.width c.change_cells.result new c.in_ok-width.ensures stepped
