-- What a style is made of.
use Rattle.std.specs.Prelude.{ℕ}
use Rattle.grid_config_values.specs.declared.borders.Borders.{Borders}
use Rattle.tabled_options.specs.declared.style.Style.{Style}

-- its glyphs
abbrev pub style_borders : Style → Borders ℕ
style_borders style = style.borders
