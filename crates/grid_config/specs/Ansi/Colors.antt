-- What a colour is.
use Rattle.std.specs.Prelude.{ℕ, ◌==◌, Bool, ◌&&◌, List, [], length}
use Rattle.grid_config.specs.declared.colors.borrowed.ANSIStr.{ANSIStr}

-- a colour: the bytes that are written before what it colours, and the bytes after it
pub record Color : Type 0 where
  pub prefix : List ℕ
  pub suffix : List ℕ

-- no colour: nothing is written
abbrev pub no_color : Color
no_color = record { prefix = []; suffix = [] }

-- both texts are empty
abbrev pub is_no_color : Color → Bool
is_no_color color = length color.prefix == 0 && length color.suffix == 0

-- the colour that an `ANSIStr` borrows
abbrev pub color_of : ANSIStr → Color
color_of color = record { prefix = color.prefix.now; suffix = color.suffix.now }
