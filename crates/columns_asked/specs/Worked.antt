-- Tables that can be worked out by hand: of one row, under a style of `-`, `|` and `+`.
use Rattle.std.specs.Prelude.{ℕ, Bool, false, true, List, [], ◌∷◌, None, Some}
use Rattle.grid_config.specs.Compact.{Compact, new_compact, no_indent}
use Rattle.papergrid_picture.specs.Worked.{ascii, indent}
use Rattle.tabled_size_priority.specs.declared.choice.Choice.{Choice}
use Rattle.tabled_size_priority.specs.declared.choice.Choice.TheVariants.{None as InTurns}
use Rattle.columns_asked.specs.WidthLimits.{WidthLimit}

-- `-` along rows, `|` along columns, `+` where they meet; and one space on both sides of a text
abbrev pub ascii_settings : Compact
ascii_settings = record new_compact {
  borders = ascii;
  padding = record { left = indent 1 0x20; right = indent 1 0x20; top = no_indent; bottom = no_indent };
}

-- no width; a width to wrap at, with words kept or not, by a priority; a width to cut at
abbrev pub no_width : WidthLimit
no_width = record { width = None; truncate = false; keep_words = false; priority = InTurns }

abbrev pub wraps : ℕ → Bool → Choice → WidthLimit
wraps width keep_words priority = record { width = Some width; truncate = false; keep_words = keep_words; priority = priority }

abbrev pub cuts : ℕ → WidthLimit
cuts width = record { width = Some width; truncate = true; keep_words = false; priority = InTurns }

-- the rows of a table of one row
abbrev pub one_row : List (List ℕ) → List (List (List ℕ))
one_row cells = cells ∷ []
