-- The attributes that the fields of a `Style` say, and the fields of the attributes.
use Rattle.ansi_scan.specs.declared.style.style.Style.TheInside.{Inside}
use Rattle.ansi_scan.specs.Styles.Attributes.{Attributes}
use Rattle.ansi_scan.specs.Styles.Flags.{flags_of}

abbrev pub attributes_of : Inside → Attributes
attributes_of fields = record {
  bold = fields.flags.bold;
  faint = fields.flags.faint;
  italic = fields.flags.italic;
  underline = fields.flags.underline;
  slow_blink = fields.flags.slow_blink;
  rapid_blink = fields.flags.rapid_blink;
  inverted = fields.flags.inverted;
  hidden = fields.flags.hidden;
  crossed_out = fields.flags.crossed_out;
  font = fields.font;
  fraktur = fields.flags.fraktur;
  double_underline = fields.flags.double_underline;
  proportional_spacing = fields.flags.proportional_spacing;
  foreground = fields.foreground;
  background = fields.background;
  framed = fields.flags.framed;
  encircled = fields.flags.encircled;
  overlined = fields.flags.overlined;
  underline_color = fields.underline_color;
  ideogram_underline = fields.flags.ideogram_underline;
  ideogram_double_underline = fields.flags.ideogram_double_underline;
  ideogram_overline = fields.flags.ideogram_overline;
  ideogram_double_overline = fields.flags.ideogram_double_overline;
  ideogram_stress = fields.flags.ideogram_stress;
  superscript = fields.flags.superscript;
  subscript = fields.flags.subscript;
}

abbrev pub fields_of : Attributes → Inside
fields_of a = record {
  flags = flags_of a;
  font = a.font;
  foreground = a.foreground;
  background = a.background;
  underline_color = a.underline_color;
}
