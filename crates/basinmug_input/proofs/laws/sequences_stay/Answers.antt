-- Each is computed.
use Rattle.std.proofs.Common.{refl}
use Rattle.std.proofs.Math.Utf8.{encode}
use Rattle.std.specs.Str.{chars}
use Rattle.ansi_scan.specs.Pieces.{at_escape, control_from, escape_from, first_pieces, leading_piece, opened, pieces, sequence_front, string_from}
use Rattle.basinmug_input.proofs.laws.sequences_stay.Goals as goal

pub returns : goal.returns
unfolding chars encode at_escape control_from escape_from first_pieces leading_piece opened pieces sequence_front string_from
returns c = record {
  colored = refl;
  ended_by_bell = refl;
  of_many_codes = refl;
  clearing = refl;
  bright = refl;
  of_underlines = refl;
}
