-- Colours of cells that clear what they set, and colours that are sequences alone.
use Rattle.std.specs.Prelude.{Option, IfSome, IsUtf8}
use Rattle.ansi_scan.specs.Pieces.{pieces}
use Rattle.grid_config_values.specs.declared.position.Position.{Position}
use Rattle.grid_config.specs.Closing.{AreSequences, Closes}
use Rattle.grid_config.specs.Colors.{Color}

-- a colour of texts in UTF-8 whose suffix clears what its prefix sets
pub record IsClosing (color : Color) : Type 0 where
  pub prefix_text : IsUtf8 color.prefix
  pub suffix_text : IsUtf8 color.suffix
  pub closes : Closes color

-- each colour of a cell is such a one
abbrev pub AreClosing : (Position → Option Color) → Type 0
AreClosing colors = (cell : Position) → IfSome (colors cell) IsClosing

-- a colour that shows nothing by itself: its texts are whole, and hold nothing but sequences
pub record ShowsNothing (color : Color) : Type 0 where
  pub prefix_form : AreSequences (pieces color.prefix)
  pub suffix_form : AreSequences (pieces color.suffix)

-- each colour of a cell is such a one
abbrev pub ShowNothing : (Position → Option Color) → Type 0
ShowNothing colors = (cell : Position) → IfSome (colors cell) ShowsNothing
