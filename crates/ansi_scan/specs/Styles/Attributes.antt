-- What the codes of SELECT GRAPHIC RENDITION set and clear: ECMA-48, 8.3.117, with what terminals add.
-- They add 90 to 107 (bright colours), 58 and 59 (colour of the underline) and 73 to 75.
use Rattle.std.specs.Prelude.{ℕ, ◌<◌, Bool, true, false, ◌&&◌, ◌||◌, Option, None, Some, IfSome, IsTrue, nat_le, ◌==◌, if◌then◌else◌}
use Rattle.ansi_scan.specs.declared.style.color.AnsiColor.{AnsiColor}
use Rattle.ansi_scan.specs.declared.style.color.AnsiColor.TheVariants.{Bit4, Bit8, Bit24}

-- what can be set: for the font the code that chose it, and each colour as it was set
pub record Attributes : Type 0 where
  pub bold : Bool
  pub faint : Bool
  pub italic : Bool
  pub underline : Bool
  pub slow_blink : Bool
  pub rapid_blink : Bool
  pub inverted : Bool
  pub hidden : Bool
  pub crossed_out : Bool
  pub font : Option ℕ
  pub fraktur : Bool
  pub double_underline : Bool
  pub proportional_spacing : Bool
  pub foreground : Option AnsiColor
  pub background : Option AnsiColor
  pub framed : Bool
  pub encircled : Bool
  pub overlined : Bool
  pub underline_color : Option AnsiColor
  pub ideogram_underline : Bool
  pub ideogram_double_underline : Bool
  pub ideogram_overline : Bool
  pub ideogram_double_overline : Bool
  pub ideogram_stress : Bool
  pub superscript : Bool
  pub subscript : Bool

-- nothing is set
unfoldable pub plain_attributes : Attributes
plain_attributes = record {
  bold = false;
  faint = false;
  italic = false;
  underline = false;
  slow_blink = false;
  rapid_blink = false;
  inverted = false;
  hidden = false;
  crossed_out = false;
  font = None;
  fraktur = false;
  double_underline = false;
  proportional_spacing = false;
  foreground = None;
  background = None;
  framed = false;
  encircled = false;
  overlined = false;
  underline_color = None;
  ideogram_underline = false;
  ideogram_double_underline = false;
  ideogram_overline = false;
  ideogram_double_overline = false;
  ideogram_stress = false;
  superscript = false;
  subscript = false;
}

-- whether an attribute is set after a code, where these codes set and clear it; 0 clears all
abbrev pub flag_after : ℕ → ℕ → ℕ → Bool → Bool
flag_after sets clears code was_set =
    if code == sets then true else (if code == clears || code == 0 then false else was_set)

abbrev pub is_font_code : ℕ → Bool
is_font_code code = nat_le 11 code && nat_le code 19

abbrev pub is_foreground_code : ℕ → Bool
is_foreground_code code = (nat_le 30 code && nat_le code 37) || (nat_le 90 code && nat_le code 97)

abbrev pub is_background_code : ℕ → Bool
is_background_code code = (nat_le 40 code && nat_le code 47) || (nat_le 100 code && nat_le code 107)

-- the font after a code
abbrev pub font_after : ℕ → Option ℕ → Option ℕ
font_after code font =
    if is_font_code code then Some code else (if code == 10 || code == 0 then None else font)

-- the colours after a code; 38, 48 and 58 alone leave them
abbrev pub foreground_after : ℕ → Option AnsiColor → Option AnsiColor
foreground_after code color =
    if is_foreground_code code then Some (Bit4 code) else (if code == 39 || code == 0 then None else color)

abbrev pub background_after : ℕ → Option AnsiColor → Option AnsiColor
background_after code color =
    if is_background_code code then Some (Bit4 code) else (if code == 49 || code == 0 then None else color)

abbrev pub underline_color_after : ℕ → Option AnsiColor → Option AnsiColor
underline_color_after code color = if code == 59 || code == 0 then None else color

-- the attributes after a code, each by the codes that set and clear it
abbrev pub after_code : Attributes → ℕ → Attributes
after_code a code = record {
  bold = flag_after 1 22 code a.bold;
  faint = flag_after 2 22 code a.faint;
  italic = flag_after 3 23 code a.italic;
  underline = flag_after 4 24 code a.underline;
  slow_blink = flag_after 5 25 code a.slow_blink;
  rapid_blink = flag_after 6 25 code a.rapid_blink;
  inverted = flag_after 7 27 code a.inverted;
  hidden = flag_after 8 28 code a.hidden;
  crossed_out = flag_after 9 29 code a.crossed_out;
  font = font_after code a.font;
  fraktur = flag_after 20 23 code a.fraktur;
  double_underline = flag_after 21 24 code a.double_underline;
  proportional_spacing = flag_after 26 50 code a.proportional_spacing;
  foreground = foreground_after code a.foreground;
  background = background_after code a.background;
  framed = flag_after 51 54 code a.framed;
  encircled = flag_after 52 54 code a.encircled;
  overlined = flag_after 53 55 code a.overlined;
  underline_color = underline_color_after code a.underline_color;
  ideogram_underline = flag_after 60 65 code a.ideogram_underline;
  ideogram_double_underline = flag_after 61 65 code a.ideogram_double_underline;
  ideogram_overline = flag_after 62 65 code a.ideogram_overline;
  ideogram_double_overline = flag_after 63 65 code a.ideogram_double_overline;
  ideogram_stress = flag_after 64 65 code a.ideogram_stress;
  superscript = flag_after 73 75 code a.superscript;
  subscript = flag_after 74 75 code a.subscript;
}

-- no code alone sets the colour of the underline
abbrev pub is_no_code : ℕ → Bool
is_no_code code = false

-- a colour that a sequence can set, by one of these codes or by numbers up to 255
abbrev pub IsColor : (ℕ → Bool) → AnsiColor → Type 0
IsColor is_code (Bit4 code) = IsTrue (is_code code)
IsColor is_code (Bit8 n) = n < 256
IsColor is_code (Bit24 r g b) = (r < 256) × (g < 256) × (b < 256)

-- attributes that sequences can set
pub record IsRendition (a : Attributes) : Type 0 where
  pub font : IfSome a.font (λ code. IsTrue (is_font_code code))
  pub foreground : IfSome a.foreground (IsColor is_foreground_code)
  pub background : IfSome a.background (IsColor is_background_code)
  pub underline_color : IfSome a.underline_color (IsColor is_no_code)
