use Rattle.std.proofs.Common.{refl}
use Rattle.std.specs.Prelude.{codes}
use Rattle.std.specs.Str.{chars}
use Rattle.std.proofs.Math.Utf8.{encode}
use Rattle.ansi_scan.specs.Pieces.{pieces, first_pieces, leading_piece, at_escape, sequence_front, opened, control_from, string_from, escape_from}
use Rattle.tables_laws.proofs.pools.whole_nestings_by_hand.Goals as goal

pub returns : goal.returns
unfolding pieces first_pieces leading_piece at_escape sequence_front opened control_from string_from escape_from chars encode
returns c = record {
  whole = ((record { utf8 = (codes "a", (refl, refl)); whole = ((λ same. cc same), tt) }, (tt, tt)), tt);
  broken = λ is. is.0.1.0.whole.0 refl;
}
