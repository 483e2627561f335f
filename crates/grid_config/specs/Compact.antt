-- The settings of a compact table.
use Rattle.std.specs.Prelude.{ℕ, Option}
use Rattle.std.specs.Option.{option_map}
use Rattle.grid_config_values.specs.declared.alignment.AlignmentHorizontal.{AlignmentHorizontal}
use Rattle.grid_config_values.specs.declared.alignment.AlignmentHorizontal.TheVariants.{Left}
use Rattle.grid_config_values.specs.declared.borders.Borders.{Borders}
use Rattle.grid_config_values.specs.declared.sides.Indent.{Indent}
use Rattle.grid_config_values.specs.declared.sides.Sides.{Sides}
use Rattle.grid_config_values.specs.Glyphs.{no_borders}
use Rattle.grid_config.specs.declared.colors.borrowed.ANSIStr.{ANSIStr}
use Rattle.grid_config.specs.Ansi.Colors.{Color, color_of, no_color}
use Rattle.grid_config.specs.declared.compact.CompactConfig.{CompactConfig}

-- all settings of a compact table
pub record Compact : Type 0 where
  pub margin : Sides Indent
  pub borders : Borders ℕ
  pub padding : Sides Indent
  pub alignment_horizontal : AlignmentHorizontal
  pub margin_color : Sides Color
  pub borders_color : Borders Color
  pub padding_color : Sides Color

-- one value at each side
abbrev pub each_side : {T : Type 0} → T → Sides T
each_side value = record { left = value; right = value; top = value; bottom = value }

-- size 0; its fill is a space
abbrev pub no_indent : Indent
no_indent = record { size = 0; fill = 32 }

-- the colours of the sides
abbrev pub side_colors : Sides ANSIStr → Sides Color
side_colors sides = record {
  left = color_of sides.left;
  right = color_of sides.right;
  top = color_of sides.top;
  bottom = color_of sides.bottom;
}

-- what becomes of each glyph, or of its colour
abbrev pub map_borders : {A B : Type 0} → (Option A → Option B) → Borders A → Borders B
map_borders f borders = record {
  top = f borders.top;
  top_left = f borders.top_left;
  top_right = f borders.top_right;
  top_intersection = f borders.top_intersection;
  bottom = f borders.bottom;
  bottom_left = f borders.bottom_left;
  bottom_right = f borders.bottom_right;
  bottom_intersection = f borders.bottom_intersection;
  horizontal = f borders.horizontal;
  left_intersection = f borders.left_intersection;
  right_intersection = f borders.right_intersection;
  intersection = f borders.intersection;
  vertical = f borders.vertical;
  left = f borders.left;
  right = f borders.right;
}

-- the colours of the borders
abbrev pub border_colors : Borders ANSIStr → Borders Color
border_colors borders = map_borders (option_map color_of) borders

-- what a `CompactConfig` says
abbrev pub compact_of : CompactConfig → Compact
compact_of config = record {
  margin = config.margin;
  borders = config.borders;
  padding = config.padding;
  alignment_horizontal = config.alignment_horizontal;
  margin_color = side_colors config.margin_color;
  borders_color = border_colors config.borders_color;
  padding_color = side_colors config.padding_color;
}

-- no glyph, no margin, no padding, text at the left, no colour
abbrev pub new_compact : Compact
new_compact = record {
  margin = each_side no_indent;
  borders = no_borders;
  padding = each_side no_indent;
  alignment_horizontal = Left;
  margin_color = each_side no_color;
  borders_color = no_borders;
  padding_color = each_side no_color;
}
