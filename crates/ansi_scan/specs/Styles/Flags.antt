-- The attributes that are set or not, and the word whose bits they are.
use Rattle.std.specs.Prelude.{ℕ, Bool, not, ◌||◌, ◌==◌, None, List, [], ◌∷◌}
use Rattle.std.specs.Int.{bit_at}
use Rattle.std.specs.Simd.Lanes.{mask_l}
use Rattle.ansi_scan.specs.declared.style.flags.Flag.{Flag}
use Rattle.ansi_scan.specs.declared.style.flags.Flag.TheVariants.{Bold, Faint, Italic, Underline, SlowBlink, RapidBlink, Inverted, Hidden, CrossedOut, Fraktur, DoubleUnderline, ProportionalSpacing, Framed, Encircled, Overlined, IdeogramUnderline, IdeogramDoubleUnderline, IdeogramOverline, IdeogramDoubleOverline, IdeogramStress, Superscript, Subscript}
use Rattle.ansi_scan.specs.Styles.Attributes.{Attributes}
use Rattle.ansi_scan.specs.Styles.FlagSet.{FlagSet}

abbrev pub flags_of : Attributes → FlagSet
flags_of a = record {
  bold = a.bold;
  faint = a.faint;
  italic = a.italic;
  underline = a.underline;
  slow_blink = a.slow_blink;
  rapid_blink = a.rapid_blink;
  inverted = a.inverted;
  hidden = a.hidden;
  crossed_out = a.crossed_out;
  fraktur = a.fraktur;
  double_underline = a.double_underline;
  proportional_spacing = a.proportional_spacing;
  framed = a.framed;
  encircled = a.encircled;
  overlined = a.overlined;
  ideogram_underline = a.ideogram_underline;
  ideogram_double_underline = a.ideogram_double_underline;
  ideogram_overline = a.ideogram_overline;
  ideogram_double_overline = a.ideogram_double_overline;
  ideogram_stress = a.ideogram_stress;
  superscript = a.superscript;
  subscript = a.subscript;
}

-- the attributes with these set, and no font and colour
abbrev pub only_flags : FlagSet → Attributes
only_flags flags = record {
  bold = flags.bold;
  faint = flags.faint;
  italic = flags.italic;
  underline = flags.underline;
  slow_blink = flags.slow_blink;
  rapid_blink = flags.rapid_blink;
  inverted = flags.inverted;
  hidden = flags.hidden;
  crossed_out = flags.crossed_out;
  font = None;
  fraktur = flags.fraktur;
  double_underline = flags.double_underline;
  proportional_spacing = flags.proportional_spacing;
  foreground = None;
  background = None;
  framed = flags.framed;
  encircled = flags.encircled;
  overlined = flags.overlined;
  underline_color = None;
  ideogram_underline = flags.ideogram_underline;
  ideogram_double_underline = flags.ideogram_double_underline;
  ideogram_overline = flags.ideogram_overline;
  ideogram_double_overline = flags.ideogram_double_overline;
  ideogram_stress = flags.ideogram_stress;
  superscript = flags.superscript;
  subscript = flags.subscript;
}

-- whether the attribute is set
abbrev pub is_set : Flag → FlagSet → Bool
is_set Bold flags = flags.bold
is_set Faint flags = flags.faint
is_set Italic flags = flags.italic
is_set Underline flags = flags.underline
is_set SlowBlink flags = flags.slow_blink
is_set RapidBlink flags = flags.rapid_blink
is_set Inverted flags = flags.inverted
is_set Hidden flags = flags.hidden
is_set CrossedOut flags = flags.crossed_out
is_set Fraktur flags = flags.fraktur
is_set DoubleUnderline flags = flags.double_underline
is_set ProportionalSpacing flags = flags.proportional_spacing
is_set Framed flags = flags.framed
is_set Encircled flags = flags.encircled
is_set Overlined flags = flags.overlined
is_set IdeogramUnderline flags = flags.ideogram_underline
is_set IdeogramDoubleUnderline flags = flags.ideogram_double_underline
is_set IdeogramOverline flags = flags.ideogram_overline
is_set IdeogramDoubleOverline flags = flags.ideogram_double_overline
is_set IdeogramStress flags = flags.ideogram_stress
is_set Superscript flags = flags.superscript
is_set Subscript flags = flags.subscript

-- the place of its bit: the first attribute has the highest
abbrev pub bit_place : Flag → ℕ
bit_place Bold = 21
bit_place Faint = 20
bit_place Italic = 19
bit_place Underline = 18
bit_place SlowBlink = 17
bit_place RapidBlink = 16
bit_place Inverted = 15
bit_place Hidden = 14
bit_place CrossedOut = 13
bit_place Fraktur = 12
bit_place DoubleUnderline = 11
bit_place ProportionalSpacing = 10
bit_place Framed = 9
bit_place Encircled = 8
bit_place Overlined = 7
bit_place IdeogramUnderline = 6
bit_place IdeogramDoubleUnderline = 5
bit_place IdeogramOverline = 4
bit_place IdeogramDoubleOverline = 3
bit_place IdeogramStress = 2
bit_place Superscript = 1
bit_place Subscript = 0

-- the attributes from the lowest bit on
abbrev pub in_places : FlagSet → List Bool
in_places flags =
    flags.subscript ∷ flags.superscript ∷ flags.ideogram_stress ∷ flags.ideogram_double_overline
    ∷ flags.ideogram_overline ∷ flags.ideogram_double_underline ∷ flags.ideogram_underline
    ∷ flags.overlined ∷ flags.encircled ∷ flags.framed ∷ flags.proportional_spacing
    ∷ flags.double_underline ∷ flags.fraktur ∷ flags.crossed_out ∷ flags.hidden ∷ flags.inverted
    ∷ flags.rapid_blink ∷ flags.slow_blink ∷ flags.underline ∷ flags.italic ∷ flags.faint
    ∷ flags.bold ∷ []

abbrev pub word_of : FlagSet → ℕ
word_of flags = mask_l (in_places flags)

abbrev pub has_bit : ℕ → ℕ → Bool
has_bit word at = bit_at word at == 1

abbrev pub flags_in : ℕ → FlagSet
flags_in word = record {
  bold = has_bit word 21;
  faint = has_bit word 20;
  italic = has_bit word 19;
  underline = has_bit word 18;
  slow_blink = has_bit word 17;
  rapid_blink = has_bit word 16;
  inverted = has_bit word 15;
  hidden = has_bit word 14;
  crossed_out = has_bit word 13;
  fraktur = has_bit word 12;
  double_underline = has_bit word 11;
  proportional_spacing = has_bit word 10;
  framed = has_bit word 9;
  encircled = has_bit word 8;
  overlined = has_bit word 7;
  ideogram_underline = has_bit word 6;
  ideogram_double_underline = has_bit word 5;
  ideogram_overline = has_bit word 4;
  ideogram_double_overline = has_bit word 3;
  ideogram_stress = has_bit word 2;
  superscript = has_bit word 1;
  subscript = has_bit word 0;
}

-- the bits that a code sets
abbrev pub bits_set_by : ℕ → List Bool
bits_set_by code =
    (code == 74) ∷ (code == 73) ∷ (code == 64) ∷ (code == 63) ∷ (code == 62) ∷ (code == 61)
    ∷ (code == 60) ∷ (code == 53) ∷ (code == 52) ∷ (code == 51) ∷ (code == 26) ∷ (code == 21)
    ∷ (code == 20) ∷ (code == 9) ∷ (code == 8) ∷ (code == 7) ∷ (code == 6) ∷ (code == 5)
    ∷ (code == 4) ∷ (code == 3) ∷ (code == 2) ∷ (code == 1) ∷ []

-- the bits that a code does not clear
abbrev pub is_kept : ℕ → ℕ → Bool
is_kept clears code = not (code == clears || code == 0)

abbrev pub bits_kept_by : ℕ → List Bool
bits_kept_by code =
    is_kept 75 code ∷ is_kept 75 code ∷ is_kept 65 code ∷ is_kept 65 code ∷ is_kept 65 code
    ∷ is_kept 65 code ∷ is_kept 65 code ∷ is_kept 55 code ∷ is_kept 54 code ∷ is_kept 54 code
    ∷ is_kept 50 code ∷ is_kept 24 code ∷ is_kept 23 code ∷ is_kept 29 code ∷ is_kept 28 code
    ∷ is_kept 27 code ∷ is_kept 25 code ∷ is_kept 25 code ∷ is_kept 24 code ∷ is_kept 23 code
    ∷ is_kept 22 code ∷ is_kept 22 code ∷ []
