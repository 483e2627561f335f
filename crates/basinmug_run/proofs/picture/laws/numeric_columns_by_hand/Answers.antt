-- Each is computed.
use Rattle.std.specs.Str.{chars, trim_end, trim_start}
use Rattle.std.proofs.Common.{refl}
use Rattle.std.proofs.Math.Utf8.{encode}
use Rattle.ansi_scan.specs.Pieces.{at_escape, control_from, escape_from, first_pieces, leading_piece, opened, pieces, sequence_front, string_from}
use Rattle.basinmug_run.proofs.picture.laws.numeric_columns_by_hand.Goals as goal

pub returns : goal.returns
unfolding chars trim_end trim_start pieces first_pieces leading_piece at_escape sequence_front opened control_from string_from escape_from encode
returns c = record {
  header = refl;
  no_header = refl;
  longer = refl;
}
