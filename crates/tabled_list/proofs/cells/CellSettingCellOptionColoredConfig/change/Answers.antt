use Rattle.grid_config_values.specs.Settings.{value_at}
use Rattle.tabled_list.proofs.cells.CellSettingCellOptionColoredConfig.change.Goals as goal
use Rattle.tabled_steps.proofs.Setting.{alignment_horizontal_steps, alignment_vertical_steps, justification_steps, line_alignment_steps, trim_horizontal_steps, trim_vertical_steps}

pub returns-in-AlignHorizontal-clause-step : goal.returns-in-AlignHorizontal-clause-step
returns-in-AlignHorizontal-clause-step g c = λ sizes.
    rw c.in-AlignHorizontal.is
    (alignment_horizontal_steps c.args.cfg.now.settings c.spanned_mut-config.result.now c.set_alignment_horizontal.new.self c.spanned_mut-config.ensures.settings c.args.entity c.set_alignment_horizontal.result c.in-AlignHorizontal.value
    c.set_alignment_horizontal.ensures.others c.set_alignment_horizontal.ensures.outcome (g.R.RecordTexts.rows c.args.records.now) (value_at c.args.cfg.now.colors) sizes)

pub returns-in-AlignVertical-clause-step : goal.returns-in-AlignVertical-clause-step
returns-in-AlignVertical-clause-step g c = λ sizes.
    rw c.in-AlignVertical.is
    (alignment_vertical_steps c.args.cfg.now.settings c.spanned_mut-config.result.now c.set_alignment_vertical.new.self c.spanned_mut-config.ensures.settings c.args.entity c.set_alignment_vertical.result c.in-AlignVertical.value
    c.set_alignment_vertical.ensures.others c.set_alignment_vertical.ensures.outcome (g.R.RecordTexts.rows c.args.records.now) (value_at c.args.cfg.now.colors) sizes)

pub returns-in-LineAlignment-clause-step : goal.returns-in-LineAlignment-clause-step
returns-in-LineAlignment-clause-step g c = λ sizes.
    rw c.in-LineAlignment.is
    (line_alignment_steps c.args.cfg.now.settings c.spanned_mut-config.result.now c.set_line_alignment.new.self c.spanned_mut-config.ensures.settings c.args.entity c.set_line_alignment.result c.in-LineAlignment.on
    c.set_line_alignment.ensures.others c.set_line_alignment.ensures.outcome (g.R.RecordTexts.rows c.args.records.now) (value_at c.args.cfg.now.colors) sizes)

pub returns-in-TrimHorizontal-clause-step : goal.returns-in-TrimHorizontal-clause-step
returns-in-TrimHorizontal-clause-step g c = λ sizes.
    rw c.in-TrimHorizontal.is
    (trim_horizontal_steps c.args.cfg.now.settings c.spanned_mut-config.result.now c.set_trim_horizontal.new.self c.spanned_mut-config.ensures.settings c.args.entity c.set_trim_horizontal.result c.in-TrimHorizontal.on
    c.set_trim_horizontal.ensures.others c.set_trim_horizontal.ensures.outcome (g.R.RecordTexts.rows c.args.records.now) (value_at c.args.cfg.now.colors) sizes)

pub returns-in-TrimVertical-clause-step : goal.returns-in-TrimVertical-clause-step
returns-in-TrimVertical-clause-step g c = λ sizes.
    rw c.in-TrimVertical.is
    (trim_vertical_steps c.args.cfg.now.settings c.spanned_mut-config.result.now c.set_trim_vertical.new.self c.spanned_mut-config.ensures.settings c.args.entity c.set_trim_vertical.result c.in-TrimVertical.on
    c.set_trim_vertical.ensures.others c.set_trim_vertical.ensures.outcome (g.R.RecordTexts.rows c.args.records.now) (value_at c.args.cfg.now.colors) sizes)

pub returns-in-Justification-clause-step : goal.returns-in-Justification-clause-step
returns-in-Justification-clause-step g c = λ sizes.
    rw c.in-Justification.is
    (justification_steps c.args.cfg.now.settings c.spanned_mut-config.result.now c.set_justification.new.self c.spanned_mut-config.ensures.settings c.args.entity c.set_justification.result c.in-Justification.fill
    c.set_justification.ensures.others c.set_justification.ensures.outcome (g.R.RecordTexts.rows c.args.records.now) (value_at c.args.cfg.now.colors) sizes)
