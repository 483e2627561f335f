-- What a table looks like under each set of glyphs, and which one is the default.
use Rattle.std.specs.Prelude.{ℕ}
use Rattle.grid_config.specs.Compact.{Compact, new_compact, no_indent}
use Rattle.grid_config_values.specs.declared.borders.Borders.{Borders}
use Rattle.tabled_glyphs.specs.Glyphs.{ascii}

-- these glyphs, and one space on both sides of a text
abbrev pub settings_with : Borders ℕ → Compact
settings_with borders = record new_compact {
  borders = borders;
  padding = record { left = record { size = 1; fill = 0x20 }; right = record { size = 1; fill = 0x20 }; top = no_indent; bottom = no_indent };
}

abbrev pub default_settings : Compact
default_settings = settings_with ascii
