-- Styles whose tables pass the greatest `usize`, or nearly.
use Rattle.std.specs.Prelude.{ℕ}
use Rattle.columns_run.specs.Wanted.{Wanted, style_alone}
use Rattle.program_options.specs.Columns.Settings.{default_settings}

-- the default style with so many columns of padding at the left of a text
abbrev pub padded_left : ℕ → Wanted
padded_left n = style_alone (record default_settings { padding = record default_settings.padding { left = record { size = n; fill = 0x20 } } })

-- and with so many lines of padding above it
abbrev pub padded_above : ℕ → Wanted
padded_above n = style_alone (record default_settings { padding = record default_settings.padding { top = record { size = n; fill = 0x20 } } })
