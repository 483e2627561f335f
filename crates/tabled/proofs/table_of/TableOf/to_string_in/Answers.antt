use Rattle.std.proofs.Common.{◌≡◌, inl, subst}
use Rattle.std.specs.Prelude.{IfOk, string_bytes}
use Rattle.grid_config.specs.Looks.{Look}
use Rattle.grid_config_values.specs.Settings.{value_at}
use Rattle.tabled.specs.Printing.{FitsOrFails, printed}
use Rattle.tabled.specs.Shown.{shown_in}
use Rattle.tabled.specs.Tables.{table_state}
use Rattle.tabled_steps.specs.States.{State, state_with}
use Rattle.tabled.proofs.Fitting.{fails-told}
use Rattle.tabled.proofs.table_of.TableOf.to_string_in.Goals as goal

pub returns-clause-text : goal.returns-clause-text
returns-clause-text g c =
    let table = c.args.self.now in
    let with_look : Look → State = λ look. state_with (g.R.RecordTexts.rows table.records) look (value_at table.config.colors) table.dimension in
    subst (λ (look : Look). IfOk c.text_under.result (λ text. string_bytes text ≡ printed (with_look look))) c.in_ok-config.ensures.look c.text_under.ensures.text

pub returns-in_err-config-clause-table : goal.returns-in_err-config-clause-table
returns-in_err-config-clause-table g c =
    fails-told (shown_in c.args.width c.args.align c.args.fill (table_state g.R.RecordTexts.rows c.args.self.now)) c.from_residual.result c.in_err-config.field-0.0 c.from_residual.ensures.1 (inl c.in_err-config.ensures.refused)

pub returns-clause-table : goal.returns-clause-table
returns-clause-table g c =
    let table = c.args.self.now in
    let with_look : Look → State = λ look. state_with (g.R.RecordTexts.rows table.records) look (value_at table.config.colors) table.dimension in
    subst (λ (look : Look). FitsOrFails (with_look look) c.text_under.result) c.in_ok-config.ensures.look c.text_under.ensures.table
