-- What the names of priorities and styles mean.
use Rattle.std.specs.Prelude.{ℕ, List, [], ◌∷◌, codes}
use Rattle.clap.specs.Words.{Text}
pub use Rattle.command_line.specs.Options.Names.{named, names_of}
use Rattle.grid_config_values.specs.Glyphs.{no_borders}
use Rattle.grid_config_values.specs.declared.borders.Borders.{Borders}
use Rattle.tabled_glyphs.specs.Glyphs.{ascii, extended, modern}
use Rattle.tabled_size_priority.specs.declared.choice.Choice.{Choice}
use Rattle.tabled_size_priority.specs.declared.choice.Choice.TheVariants.{None as InTurns, MinLeft, MaxLeft, Left, Right}

-- of equally narrow or equally wide columns the left one comes first
abbrev pub priorities : List (Text × Choice)
priorities = (codes "none", InTurns) ∷ (codes "min", MinLeft) ∷ (codes "max", MaxLeft) ∷ (codes "left", Left) ∷ (codes "right", Right) ∷ []

-- the glyphs of each style
abbrev pub styles : List (Text × Borders ℕ)
styles = (codes "ascii", ascii) ∷ (codes "modern", modern) ∷ (codes "extended", extended) ∷ (codes "empty", no_borders) ∷ []

abbrev pub priority_names : List Text
priority_names = names_of priorities

abbrev pub style_names : List Text
style_names = names_of styles
