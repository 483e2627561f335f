-- All settings as each cell has them: functions of its place, so that settings which say the same are equal.
use Rattle.std.specs.Prelude.{ℕ, Bool, false, Option, None}
use Rattle.grid_config_values.specs.declared.alignment.AlignmentHorizontal.{AlignmentHorizontal}
use Rattle.grid_config_values.specs.declared.alignment.AlignmentVertical.{AlignmentVertical}
use Rattle.grid_config_values.specs.declared.alignment.AlignmentVertical.TheVariants.{Top}
use Rattle.grid_config_values.specs.declared.borders.Borders.{Borders}
use Rattle.grid_config_values.specs.declared.position.Position.{Position}
use Rattle.grid_config_values.specs.declared.sides.Indent.{Indent}
use Rattle.grid_config_values.specs.declared.sides.Sides.{Sides}
use Rattle.grid_config_values.specs.Settings.{value_at}
use Rattle.grid_config_values.specs.declared.spans.extent.Extent.{Extent}
use Rattle.grid_config_values.specs.Spans.Spans.{extent_at, single}
use Rattle.grid_config.specs.Ansi.Colors.{Color}
use Rattle.grid_config.specs.Compact.{Compact}
use Rattle.grid_config.specs.Settings.{Settings, side_colors_if}

-- the settings of the whole table, then those that each cell has, then how many rows and columns it takes
pub record Look : Type 0 where
  pub margin : Sides Indent
  pub margin_color : Sides (Option Color)
  pub borders : Borders ℕ
  pub borders_color : Borders Color
  pub padding : Position → Sides Indent
  pub padding_color : Position → Sides (Option Color)
  pub alignment_horizontal : Position → AlignmentHorizontal
  pub alignment_vertical : Position → AlignmentVertical
  pub line_alignment : Position → Bool
  pub trim_horizontal : Position → Bool
  pub trim_vertical : Position → Bool
  pub justification : Position → ℕ
  pub justification_color : Position → Option Color
  pub extent : Position → Extent

-- the look of all settings
abbrev pub look_of : Settings → Look
look_of settings = record {
  margin = settings.margin;
  margin_color = settings.margin_color;
  borders = settings.borders;
  borders_color = settings.borders_color;
  padding = value_at settings.padding;
  padding_color = value_at settings.padding_color;
  alignment_horizontal = value_at settings.alignment_horizontal;
  alignment_vertical = value_at settings.alignment_vertical;
  line_alignment = value_at settings.line_alignment;
  trim_horizontal = value_at settings.trim_horizontal;
  trim_vertical = value_at settings.trim_vertical;
  justification = value_at settings.justification;
  justification_color = value_at settings.justification_color;
  extent = extent_at settings.spans;
}

-- the look of a compact table: its settings in every cell, and else text at the top, no line alignment, no trims, spaces
-- for justification without a colour, and single cells
abbrev pub compact_look : Compact → Look
compact_look compact = record {
  margin = compact.margin;
  margin_color = side_colors_if compact.margin_color;
  borders = compact.borders;
  borders_color = compact.borders_color;
  padding = λ _. compact.padding;
  padding_color = λ _. side_colors_if compact.padding_color;
  alignment_horizontal = λ _. compact.alignment_horizontal;
  alignment_vertical = λ _. Top;
  line_alignment = λ _. false;
  trim_horizontal = λ _. false;
  trim_vertical = λ _. false;
  justification = λ _. 32;
  justification_color = λ _. None;
  extent = λ _. single;
}
