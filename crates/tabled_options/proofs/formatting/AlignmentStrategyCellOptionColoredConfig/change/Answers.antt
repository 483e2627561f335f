use Rattle.std.proofs.Common.{true, false}
use Rattle.grid_config_values.specs.Settings.{value_at}
use Rattle.tabled_options.proofs.formatting.AlignmentStrategyCellOptionColoredConfig.change.Goals as goal
use Rattle.tabled_steps.proofs.Setting.{line_alignment_steps}

pub returns-in-PerCell-clause-step : goal.returns-in-PerCell-clause-step
returns-in-PerCell-clause-step g c = λ sizes.
    rw c.in-PerCell.is
    (line_alignment_steps c.args.cfg.now.settings c.spanned_mut.result.now c.set_line_alignment.new.self c.spanned_mut.ensures.settings c.args.entity c.set_line_alignment.result false
    c.set_line_alignment.ensures.others c.set_line_alignment.ensures.outcome (g.R.RecordTexts.rows c.args.records.now) (value_at c.args.cfg.now.colors) sizes)

pub returns-in-PerLine-clause-step : goal.returns-in-PerLine-clause-step
returns-in-PerLine-clause-step g c = λ sizes.
    rw c.in-PerLine.is
    (line_alignment_steps c.args.cfg.now.settings c.spanned_mut-in-PerLine.result.now c.set_line_alignment-in-PerLine.new.self c.spanned_mut-in-PerLine.ensures.settings c.args.entity c.set_line_alignment-in-PerLine.result true
    c.set_line_alignment-in-PerLine.ensures.others c.set_line_alignment-in-PerLine.ensures.outcome (g.R.RecordTexts.rows c.args.records.now) (value_at c.args.cfg.now.colors) sizes)
