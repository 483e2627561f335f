use Rattle.std.proofs.Common.{◌∙◌, ap}
use Rattle.grid_config.specs.Compact.{each_side}
use Rattle.grid_config.proofs.spanned.SpannedConfig.new.Goals as goal

pub returns : goal.returns
returns c = record {
  margin = c.new.ensures.margin;
  margin_color = c.new.ensures.margin_color;
  borders = c.new.ensures.borders;
  borders_color = c.new.ensures.borders_color;
  padding = λ p. c.new-2.ensures.padding p ∙ (c.filled-padding.ensures ∙ ap each_side c.zero.ensures);
  padding_color = λ p. c.new-2.ensures.padding_color p ∙ c.new-none.ensures;
  alignment_horizontal = c.new-2.ensures.alignment_horizontal;
  alignment_vertical = c.new-2.ensures.alignment_vertical;
  line_alignment = c.new-2.ensures.line_alignment;
  trim_horizontal = c.new-2.ensures.trim_horizontal;
  trim_vertical = c.new-2.ensures.trim_vertical;
  justification = c.new-2.ensures.justification;
  justification_color = c.new-2.ensures.justification_color;
  spans = c.new-3.ensures;
}
