-- Each is computed.
use Rattle.std.proofs.Common.{refl}
use Rattle.std.proofs.Math.Utf8.{encode}
use Rattle.std.specs.Str.{chars}
use Rattle.ansi_scan.specs.Pieces.{at_escape, control_from, escape_from, first_pieces, leading_piece, opened, pieces, sequence_front, string_from}
use Rattle.csv.proofs.OnLiterals.{csv_on_literals}
use Rattle.basinmug_input.proofs.laws.kept_by_hand.Goals as goal

pub returns-clause-of_a_text : goal.returns-clause-of_a_text
unfolding csv_on_literals chars encode at_escape control_from escape_from first_pieces leading_piece opened pieces sequence_front string_from
returns-clause-of_a_text c = refl
