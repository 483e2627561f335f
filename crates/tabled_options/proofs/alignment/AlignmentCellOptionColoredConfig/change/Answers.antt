use Rattle.grid_config_values.specs.Settings.{value_at}
use Rattle.tabled_options.proofs.alignment.AlignmentCellOptionColoredConfig.change.Goals as goal
use Rattle.tabled_steps.proofs.Setting.{alignment_horizontal_steps, alignment_vertical_steps}

pub returns-in-Horizontal-clause-step : goal.returns-in-Horizontal-clause-step
returns-in-Horizontal-clause-step g c = λ sizes.
    rw c.in-Horizontal.is
    (alignment_horizontal_steps c.args.cfg.now.settings c.spanned_mut.result.now c.set_alignment_horizontal.new.self c.spanned_mut.ensures.settings c.args.entity c.set_alignment_horizontal.result c.in-Horizontal.value
    c.set_alignment_horizontal.ensures.others c.set_alignment_horizontal.ensures.outcome (g.R.RecordTexts.rows c.args.records.now) (value_at c.args.cfg.now.colors) sizes)

pub returns-in-Vertical-clause-step : goal.returns-in-Vertical-clause-step
returns-in-Vertical-clause-step g c = λ sizes.
    rw c.in-Vertical.is
    (alignment_vertical_steps c.args.cfg.now.settings c.spanned_mut-in-Vertical.result.now c.set_alignment_vertical.new.self c.spanned_mut-in-Vertical.ensures.settings c.args.entity c.set_alignment_vertical.result c.in-Vertical.value
    c.set_alignment_vertical.ensures.others c.set_alignment_vertical.ensures.outcome (g.R.RecordTexts.rows c.args.records.now) (value_at c.args.cfg.now.colors) sizes)
