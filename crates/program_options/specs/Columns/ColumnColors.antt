-- Colours that are given for columns.
use Rattle.std.specs.Prelude.{ℕ, All, List}
use Rattle.grid_config.specs.Colors.{Color}
use Rattle.papergrid_picture.specs.Colors.ClosingColors.{IsClosing}

-- each of the colours is closing: its texts are sequences in UTF-8, and it clears what it sets
abbrev pub AllClose : List (ℕ × Color) → Type 0
AllClose colors = All (λ given. IsClosing given.1) colors
