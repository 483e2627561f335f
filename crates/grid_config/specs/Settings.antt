-- All settings of a table.
use Rattle.std.specs.Prelude.{◌≡◌, ℕ, Bool, false, Option, None, Some, List, [], if◌then◌else◌}
use Rattle.grid_config_values.specs.declared.alignment.AlignmentHorizontal.{AlignmentHorizontal}
use Rattle.grid_config_values.specs.declared.alignment.AlignmentHorizontal.TheVariants.{Left}
use Rattle.grid_config_values.specs.declared.alignment.AlignmentVertical.{AlignmentVertical}
use Rattle.grid_config_values.specs.declared.alignment.AlignmentVertical.TheVariants.{Top}
use Rattle.grid_config_values.specs.declared.borders.Borders.{Borders}
use Rattle.grid_config_values.specs.declared.entity_map.EntityMap.{EntityMap}
use Rattle.grid_config_values.specs.declared.position.Position.{Position}
use Rattle.grid_config_values.specs.declared.sides.Indent.{Indent}
use Rattle.grid_config_values.specs.declared.sides.Sides.{Sides}
use Rattle.grid_config_values.specs.Glyphs.{no_borders}
use Rattle.grid_config_values.specs.Settings.{IsUniform, value_at}
use Rattle.grid_config_values.specs.declared.spans.extent.Extent.{Extent}
use Rattle.grid_config.specs.Ansi.Colors.{Color, is_no_color}
use Rattle.grid_config.specs.Compact.{Compact, each_side, map_borders, no_indent}

-- the settings of the whole table, then those that each cell has, then the spans
pub record Settings : Type 0 where
  pub margin : Sides Indent
  pub margin_color : Sides (Option Color)
  pub borders : Borders ℕ
  pub borders_color : Borders Color
  pub padding : EntityMap (Sides Indent)
  pub padding_color : EntityMap (Sides (Option Color))
  pub alignment_horizontal : EntityMap AlignmentHorizontal
  pub alignment_vertical : EntityMap AlignmentVertical
  pub line_alignment : EntityMap Bool
  pub trim_horizontal : EntityMap Bool
  pub trim_vertical : EntityMap Bool
  pub justification : EntityMap ℕ
  pub justification_color : EntityMap (Option Color)
  pub spans : List (Position × Extent)

-- the settings by name
pub data SettingField : Type 0 where
  Padding : SettingField
  PaddingColor : SettingField
  HorizontalAlignment : SettingField
  VerticalAlignment : SettingField
  LineAlignment : SettingField
  TrimHorizontal : SettingField
  TrimVertical : SettingField
  Justification : SettingField
  JustificationColor : SettingField
  CellSpans : SettingField

-- the old settings with what the new ones have for one of them
abbrev pub with_one : SettingField → Settings → Settings → Settings
with_one Padding old new = record old { padding = new.padding }
with_one PaddingColor old new = record old { padding_color = new.padding_color }
with_one HorizontalAlignment old new = record old { alignment_horizontal = new.alignment_horizontal }
with_one VerticalAlignment old new = record old { alignment_vertical = new.alignment_vertical }
with_one LineAlignment old new = record old { line_alignment = new.line_alignment }
with_one TrimHorizontal old new = record old { trim_horizontal = new.trim_horizontal }
with_one TrimVertical old new = record old { trim_vertical = new.trim_vertical }
with_one Justification old new = record old { justification = new.justification }
with_one JustificationColor old new = record old { justification_color = new.justification_color }
with_one CellSpans old new = record old { spans = new.spans }

-- every setting but this one is as it was
abbrev pub KeepsOthers : SettingField → Settings → Settings → Type 0
KeepsOthers setting old new = new ≡ with_one setting old new

-- ---- settings that no call has changed yet

-- every cell has this value
abbrev pub IsEverywhere : {T : Type 0} → EntityMap T → T → Type 0
IsEverywhere map value = (p : Position) → value_at map p ≡ value

-- all cells have the same settings, but for what they span and for the side at which their texts are
pub record AreUniformButAlignment (settings : Settings) : Type 0 where
  pub padding : IsUniform settings.padding
  pub padding_color : IsUniform settings.padding_color
  pub alignment_vertical : IsUniform settings.alignment_vertical
  pub line_alignment : IsUniform settings.line_alignment
  pub trim_horizontal : IsUniform settings.trim_horizontal
  pub trim_vertical : IsUniform settings.trim_vertical
  pub justification : IsUniform settings.justification
  pub justification_color : IsUniform settings.justification_color

-- all cells have the same settings, but for what they span, for the side at which their texts are, and for whether
-- their lines are trimmed at both ends and aligned one by one
pub record AreUniformButLines (settings : Settings) : Type 0 where
  pub padding : IsUniform settings.padding
  pub padding_color : IsUniform settings.padding_color
  pub alignment_vertical : IsUniform settings.alignment_vertical
  pub trim_vertical : IsUniform settings.trim_vertical
  pub justification : IsUniform settings.justification
  pub justification_color : IsUniform settings.justification_color

-- all cells have the same settings, but for what they span
pub record AreUniform (settings : Settings) : Type 0 where
  pub others : AreUniformButAlignment settings
  pub alignment_horizontal : IsUniform settings.alignment_horizontal

-- what a table may start with
pub record Start : Type 0 where
  pub margin : Sides Indent
  pub margin_color : Sides (Option Color)
  pub borders : Borders ℕ
  pub borders_color : Borders Color
  pub padding : Sides Indent
  pub padding_color : Sides (Option Color)
  pub alignment_horizontal : AlignmentHorizontal

-- these settings, for every cell, and else text at the top, no line alignment, no trims, spaces for
-- justification without a colour, and no span
pub record StartsWith (start : Start) (settings : Settings) : Type 0 where
  pub margin : settings.margin ≡ start.margin
  pub margin_color : settings.margin_color ≡ start.margin_color
  pub borders : settings.borders ≡ start.borders
  pub borders_color : settings.borders_color ≡ start.borders_color
  pub padding : IsEverywhere settings.padding start.padding
  pub padding_color : IsEverywhere settings.padding_color start.padding_color
  pub alignment_horizontal : IsEverywhere settings.alignment_horizontal start.alignment_horizontal
  pub alignment_vertical : IsEverywhere settings.alignment_vertical Top
  pub line_alignment : IsEverywhere settings.line_alignment false
  pub trim_horizontal : IsEverywhere settings.trim_horizontal false
  pub trim_vertical : IsEverywhere settings.trim_vertical false
  pub justification : IsEverywhere settings.justification 32
  pub justification_color : IsEverywhere settings.justification_color None
  pub spans : settings.spans ≡ []

-- no glyph, no margin, no padding, text at the left, no colour
abbrev pub new_start : Start
new_start = record {
  margin = each_side no_indent;
  margin_color = each_side None;
  borders = no_borders;
  borders_color = no_borders;
  padding = each_side no_indent;
  padding_color = each_side None;
  alignment_horizontal = Left;
}

-- a colour that is there: one with empty texts is none
abbrev pub color_if : Color → Option Color
color_if color = if is_no_color color then None else Some color

abbrev pub side_colors_if : Sides Color → Sides (Option Color)
side_colors_if sides = record {
  left = color_if sides.left;
  right = color_if sides.right;
  top = color_if sides.top;
  bottom = color_if sides.bottom;
}

-- the settings of a compact table
abbrev pub compact_start : Compact → Start
compact_start compact = record {
  margin = compact.margin;
  margin_color = side_colors_if compact.margin_color;
  borders = compact.borders;
  borders_color = compact.borders_color;
  padding = compact.padding;
  padding_color = side_colors_if compact.padding_color;
  alignment_horizontal = compact.alignment_horizontal;
}

-- a border's colour, none where both its texts are empty
abbrev pub color_if_set : Option Color → Option Color
color_if_set None = None
color_if_set (Some color) = color_if color

-- no colour is set: none that isn't empty is at a side of the margin or the padding, or on a border
pub record IsUncolored (compact : Compact) : Type 0 where
  pub margin : side_colors_if compact.margin_color ≡ each_side None
  pub padding : side_colors_if compact.padding_color ≡ each_side None
  pub borders : map_borders color_if_set compact.borders_color ≡ no_borders
