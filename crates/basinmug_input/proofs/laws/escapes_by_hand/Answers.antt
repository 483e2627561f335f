-- Each is computed.
use Rattle.std.proofs.Common.{refl}
use Rattle.std.proofs.Math.Utf8.{encode}
use Rattle.std.specs.Str.{chars}
use Rattle.ansi_scan.specs.Pieces.{at_escape, control_from, escape_from, first_pieces, leading_piece, opened, pieces, sequence_front, string_from}
use Rattle.basinmug_input.proofs.laws.escapes_by_hand.Goals as goal

pub returns : goal.returns
unfolding chars encode at_escape control_from escape_from first_pieces leading_piece opened pieces sequence_front string_from
returns c = record {
  cursor = refl;
  concealed = refl;
  unknown_code = refl;
  with_colons = refl;
  half_a_color = refl;
  title = refl;
  alone = refl;
  line_cleared = refl;
  none = refl;
  turned = refl;
  turning = refl;
  color_alone = refl;
  color_without_number = refl;
  number_too_great = refl;
  color_of_another_form = refl;
  all_of_a_line = refl;
  turned_under_none = refl;
  bell_under_all = refl;
}
