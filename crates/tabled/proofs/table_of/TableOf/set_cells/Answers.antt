use Rattle.std.proofs.Common.{Ok, ap, rules, sym, ◌∙◌}
use Rattle.grid_config_values.specs.Settings.{value_at}
use Rattle.grid_config.specs.Looks.{look_of}
use Rattle.tabled_size.specs.Dimension.Stored.{Stored, kept_after}
use Rattle.tabled_steps.specs.States.{Outcome, state_with}
use Rattle.tabled.proofs.table_of.TableOf.set_cells.Goals as goal

pub returns-in_err-change : goal.returns-in_err-change
returns-in_err-change g c =
    let refused = c.in_err-change.ensures c.args.self.now.dimension in search rules

pub returns : goal.returns
returns g c =
    let sizes = c.args.self.now.dimension in
    let now : Stored → Outcome = λ sizes. Ok (state_with (g.R.RecordTexts.rows c.change.new.records) (look_of c.change.new.cfg.settings) (value_at c.change.new.cfg.colors) sizes) in
    (now sizes, c.in_ok-change.ensures sizes, ap now (ap (λ hint. kept_after hint sizes) (sym c.hint_change-hint.ensures) ∙ sym c.reastimate.ensures))
