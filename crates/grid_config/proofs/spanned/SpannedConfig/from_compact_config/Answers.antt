use Rattle.std.proofs.Common.{◌∙◌, ap}
use Rattle.grid_config.specs.Settings.{side_colors_if}
use Rattle.grid_config.proofs.spanned.SpannedConfig.from_compact_config.Goals as goal

pub returns-clause-settings : goal.returns-clause-settings
returns-clause-settings c = record {
  margin = c.in_ok-whole.ensures.margin;
  margin_color = c.in_ok-whole.ensures.margin_color;
  borders = c.in_ok-whole.ensures.borders;
  borders_color = c.in_ok-whole.ensures.borders_color;
  padding = λ p. c.new.ensures.padding p ∙ c.get_padding.ensures;
  padding_color = λ p. c.new.ensures.padding_color p ∙ c.in_ok-padding_color.ensures.colors ∙ ap side_colors_if c.get_padding_color.ensures;
  alignment_horizontal = λ p. c.new.ensures.alignment_horizontal p ∙ c.get_alignment_horizontal.ensures;
  alignment_vertical = c.new.ensures.alignment_vertical;
  line_alignment = c.new.ensures.line_alignment;
  trim_horizontal = c.new.ensures.trim_horizontal;
  trim_vertical = c.new.ensures.trim_vertical;
  justification = c.new.ensures.justification;
  justification_color = c.new.ensures.justification_color;
  spans = c.new-2.ensures;
}
