-- Colours of columns that can be worked out by hand.
use Rattle.std.specs.Prelude.{ℕ, List, [], ◌∷◌, codes}
use Rattle.grid_config.specs.Colors.{Color}
pub use Rattle.papergrid_picture.specs.Colors.Worked.{green, red}

abbrev pub bold : Color
bold = record { prefix = codes "\u{1b}[1m"; suffix = codes "\u{1b}[22m" }

-- this column alone has a colour
abbrev pub only : ℕ → Color → List (ℕ × Color)
only column color = (column, color) ∷ []
