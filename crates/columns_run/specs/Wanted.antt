-- What is wanted of a table: its style, its width, and the colours of its columns.
use Rattle.std.specs.Prelude.{◌≡◌, ℕ, List, [], None, false}
use Rattle.columns_asked.specs.declared.asked.WidthLimit.{WidthLimit}
use Rattle.program_options.specs.Columns.Settings.{default_settings}
use Rattle.program_options.specs.declared.columns.options.Options.{Options}
use Rattle.grid_config.specs.Colors.{Color}
use Rattle.grid_config.specs.Compact.{Compact, compact_of}
use Rattle.tabled_size_priority.specs.declared.choice.Choice.TheVariants.{None as InTurns}

-- the settings of the table, its requested width with the way in which it gets narrower, and columns with their
-- colours, the last of a column deciding
pub record Wanted : Type 0 where
  pub style : Compact
  pub limit : WidthLimit
  pub colors : List (ℕ × Color)

-- what options say of the width
abbrev pub limit_of : Options → WidthLimit
limit_of options = record { width = options.width; truncate = options.truncate; keep_words = options.keep_words; priority = options.priority }

-- what options request
abbrev pub wanted_of : Options → Wanted
wanted_of options = record { style = compact_of options.style; limit = limit_of options; colors = options.colors.items }

-- a table in this style, as wide as its text, without colours
abbrev pub style_alone : Compact → Wanted
style_alone style = record { style = style; limit = record { width = None; truncate = false; keep_words = false; priority = InTurns }; colors = [] }

-- no width is requested, and no column has a colour
abbrev pub WantsStyleAlone : Wanted → Type 0
WantsStyleAlone wanted = (wanted.limit.width ≡ None) × (wanted.colors ≡ [])

-- what is wanted, without colours
abbrev pub without_colors : Wanted → Wanted
without_colors wanted = record wanted { colors = [] }

-- a table in the style that `Options::new` has
abbrev pub default_wanted : WidthLimit → List (ℕ × Color) → Wanted
default_wanted limit colors = record { style = default_settings; limit = limit; colors = colors }

-- one in that style that has no width, in whatever way it would get narrower
abbrev pub IsDefault : Wanted → Type 0
IsDefault wanted = (wanted.limit.width ≡ None) × (wanted.style ≡ default_settings)
