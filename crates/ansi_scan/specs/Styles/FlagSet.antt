-- Which attributes are set, of those that have no value.
use Rattle.std.specs.Prelude.{Bool}

pub record FlagSet : Type 0 where
  pub bold : Bool
  pub faint : Bool
  pub italic : Bool
  pub underline : Bool
  pub slow_blink : Bool
  pub rapid_blink : Bool
  pub inverted : Bool
  pub hidden : Bool
  pub crossed_out : Bool
  pub fraktur : Bool
  pub double_underline : Bool
  pub proportional_spacing : Bool
  pub framed : Bool
  pub encircled : Bool
  pub overlined : Bool
  pub ideogram_underline : Bool
  pub ideogram_double_underline : Bool
  pub ideogram_overline : Bool
  pub ideogram_double_overline : Bool
  pub ideogram_stress : Bool
  pub superscript : Bool
  pub subscript : Bool
