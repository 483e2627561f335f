-- Looks whose glyphs and fills are characters of a line, and whose colours clear what they set.
use Rattle.std.specs.Prelude.{◌≡◌, ℕ, false, Option, IfSome}
use Rattle.std.specs.Char.{IsScalar, is_control}
use Rattle.grid_config.specs.Colors.{Color}
use Rattle.grid_config.specs.Looks.{Look}
use Rattle.papergrid_picture.specs.Colors.ClosingColors.{IsClosing}
use Rattle.papergrid_picture.specs.Shown.{IsColoredBy, ShowsOnly}

-- a character that is no control character (Unicode, General_Category Cc)
pub record IsNoControl (c : ℕ) : Type 0 where
  pub scalar : IsScalar c
  pub no_control : is_control c ≡ false

-- no colour, or one that closes
abbrev pub ClosesIfSet : Option Color → Type 0
ClosesIfSet color = IfSome color IsClosing

-- a look none of whose glyphs, fills and characters for justification is a control character,
-- and each of whose colours closes
pub record IsClosingLook (look : Look) : Type 0 where
  pub shown : ShowsOnly IsNoControl look
  pub colors : IsColoredBy ClosesIfSet look
