-- Looks whose glyphs and fills take one column each.
use Rattle.std.specs.Prelude.{◌≡◌, ℕ, Bool, List, Option, IfSome, true}
use Rattle.std.specs.List.{list_all, sum_by}
use Rattle.grid_config.specs.Colors.{Color}
use Rattle.grid_config.specs.Looks.{Look}
use Rattle.grid_records_measure.specs.Measures.{measure, own_width}
use Rattle.papergrid_picture.specs.Colors.ClosingColors.{ShowsNothing}
use Rattle.papergrid_picture.specs.Shown.{BeginsNoSequence, IsColoredBy, ShowsOnly}

-- a character of the class that begins no sequence and takes one column
pub record TakesOne (of_class : ℕ → Bool) (c : ℕ) : Type 0 where
  pub begins : BeginsNoSequence c
  pub one : own_width c ≡ 1
  pub inside : of_class c ≡ true

-- no colour, or one that is sequences alone
abbrev pub IsSilent : Option Color → Type 0
IsSilent color = IfSome color ShowsNothing

-- each glyph, fill and character for justification is such a one, and each colour is sequences alone
pub record TakesOnes (of_class : ℕ → Bool) (look : Look) : Type 0 where
  pub shown : ShowsOnly (TakesOne of_class) look
  pub colors : IsColoredBy IsSilent look

-- what characters of a class measure as one text is the sum of what each takes by itself
abbrev pub AddsUp : (ℕ → Bool) → Type 0
AddsUp of_class = (characters : List ℕ) → list_all of_class characters ≡ true → measure characters ≡ sum_by own_width characters
