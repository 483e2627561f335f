use Rattle.std.proofs.Common.{true}
use Rattle.grid_config_values.specs.Settings.{value_at}
use Rattle.tabled_options.proofs.formatting.TrimStrategyCellOptionColoredConfig.change.Goals as goal
use Rattle.tabled_steps.proofs.Setting.{trim_horizontal_steps, trim_vertical_steps}

pub returns-in-Horizontal-clause-step : goal.returns-in-Horizontal-clause-step
returns-in-Horizontal-clause-step g c = λ sizes.
    rw c.in-Horizontal.is
    (trim_horizontal_steps c.args.cfg.now.settings c.spanned_mut.result.now c.set_trim_horizontal.new.self c.spanned_mut.ensures.settings c.args.entity c.set_trim_horizontal.result true
    c.set_trim_horizontal.ensures.others c.set_trim_horizontal.ensures.outcome (g.R.RecordTexts.rows c.args.records.now) (value_at c.args.cfg.now.colors) sizes)

pub returns-in-Vertical-clause-step : goal.returns-in-Vertical-clause-step
returns-in-Vertical-clause-step g c = λ sizes.
    rw c.in-Vertical.is
    (trim_vertical_steps c.args.cfg.now.settings c.spanned_mut-in-Vertical.result.now c.set_trim_vertical.new.self c.spanned_mut-in-Vertical.ensures.settings c.args.entity c.set_trim_vertical.result true
    c.set_trim_vertical.ensures.others c.set_trim_vertical.ensures.outcome (g.R.RecordTexts.rows c.args.records.now) (value_at c.args.cfg.now.colors) sizes)
