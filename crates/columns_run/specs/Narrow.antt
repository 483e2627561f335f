-- Styles under which each glyph and each fill takes one column, and nothing is coloured; and what a run accepts.
use Rattle.std.specs.Prelude.{◌≡◌, ◌&&◌, ℕ, Bool, false, true, IfSome, Option, None, Some}
use Rattle.std.specs.Char.{IsScalar, is_control}
use Rattle.program_options.specs.Columns.ColumnColors.{AllClose}
use Rattle.grid_config.specs.Compact.{Compact}
use Rattle.grid_config.specs.Settings.{IsUncolored}
use Rattle.grid_config.specs.Colors.{Color, is_no_color}
use Rattle.grid_config_values.specs.declared.borders.Borders.{Borders}
use Rattle.grid_config_values.specs.declared.sides.Sides.{Sides}
use Rattle.grid_records_measure.specs.Measures.{own_width}
use Rattle.papergrid_picture.specs.Shown.{OnEachSide}
use Rattle.columns_run.specs.Wanted.{Wanted}

-- a character that takes one column and is no control character (Unicode, General_Category Cc)
pub record IsNarrowCharacter (c : ℕ) : Type 0 where
  pub scalar : IsScalar c
  pub one_column : own_width c ≡ 1
  pub no_control : is_control c ≡ false

-- each of three glyphs that is set is of a kind
abbrev ThreeAre : (ℕ → Type 0) → Option ℕ → Option ℕ → Option ℕ → Type 0
ThreeAre P a b c = IfSome a P × IfSome b P × IfSome c P

-- each glyph that is set is of a kind
abbrev pub GlyphsAre : (ℕ → Type 0) → Borders ℕ → Type 0
GlyphsAre P b =
    ThreeAre P b.top_left b.top_intersection b.top_right
    × ThreeAre P b.left_intersection b.intersection b.right_intersection
    × ThreeAre P b.bottom_left b.bottom_intersection b.bottom_right
    × ThreeAre P b.top b.horizontal b.bottom
    × ThreeAre P b.left b.vertical b.right

-- each glyph and each fill is such a character, and no colour is set: a set one is there and not empty
pub record NarrowGlyphs (style : Compact) : Type 0 where
  pub glyphs : GlyphsAre IsNarrowCharacter style.borders
  pub margin : OnEachSide (λ indent. IsNarrowCharacter indent.fill) style.margin
  pub padding : OnEachSide (λ indent. IsNarrowCharacter indent.fill) style.padding
  pub uncolored : IsUncolored style

-- the same, as a name that searches do not unfold
unfoldable pub HasNarrowGlyphs : Compact → Type 0
HasNarrowGlyphs style = NarrowGlyphs style

-- what `run` accepts: a narrow style, and colours that close
pub record IsRunnable (wanted : Wanted) : Type 0 where
  pub narrow : HasNarrowGlyphs wanted.style
  pub close : AllClose wanted.colors

-- ---- no colour, as a test

abbrev pub is_uncolored : Option Color → Bool
is_uncolored None = true
is_uncolored (Some color) = is_no_color color

abbrev pub are_sides_uncolored : Sides Color → Bool
are_sides_uncolored colors = is_no_color colors.left && (is_no_color colors.right && (is_no_color colors.top && is_no_color colors.bottom))

abbrev pub are_three_uncolored : Option Color → Option Color → Option Color → Bool
are_three_uncolored a b c = is_uncolored a && (is_uncolored b && is_uncolored c)

abbrev pub are_borders_uncolored : Borders Color → Bool
are_borders_uncolored b =
    are_three_uncolored b.top_left b.top_intersection b.top_right
    && (are_three_uncolored b.left_intersection b.intersection b.right_intersection
    && (are_three_uncolored b.bottom_left b.bottom_intersection b.bottom_right
    && (are_three_uncolored b.top b.horizontal b.bottom
    && are_three_uncolored b.left b.vertical b.right)))

-- the same, setting by setting
abbrev pub HasNarrowSettings : Compact → Type 0
HasNarrowSettings style =
    GlyphsAre IsNarrowCharacter style.borders
    × OnEachSide (λ indent. IsNarrowCharacter indent.fill) style.margin
    × OnEachSide (λ indent. IsNarrowCharacter indent.fill) style.padding
    × (are_sides_uncolored style.margin_color ≡ true)
    × (are_sides_uncolored style.padding_color ≡ true)
    × (are_borders_uncolored style.borders_color ≡ true)
