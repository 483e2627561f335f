use Rattle.grid_config_values.specs.Settings.{value_at}
use Rattle.tabled_options.specs.Options.{padding_sides}
use Rattle.tabled_options.proofs.padding.PaddingCellOptionColoredConfig.change.Goals as goal
use Rattle.tabled_steps.proofs.Setting.{padding_steps}

pub returns-clause-step : goal.returns-clause-step
returns-clause-step g c = λ sizes.
    padding_steps c.args.cfg.now.settings c.spanned_mut.result.now c.set_padding.new.self c.spanned_mut.ensures.settings c.args.entity c.set_padding.result (padding_sides c.args.self.now)
    c.set_padding.ensures.others c.set_padding.ensures.outcome (g.R.RecordTexts.rows c.args.records.now) (value_at c.args.cfg.now.colors) sizes
