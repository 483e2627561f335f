-- By all pieces of a text, and by those of small ones.
use Rattle.std.proofs.Common.{ap, refl, length, arith}
use Rattle.ansi_scan.specs.Pieces.{pieces, first_pieces, leading_piece, at_escape, sequence_front, opened, control_from}
use Rattle.ansi_scan.proofs.ByteReads.{reads_over-text}
use Rattle.ansi_scan.proofs.laws.reads_are_few.Goals as goal

pub returns-clause-few : goal.returns-clause-few
returns-clause-few c = λ text ps are. omega (arith, reads_over-text ps are.stand, ap length are.joins)

pub returns-clause-plain : goal.returns-clause-plain
unfolding pieces first_pieces leading_piece at_escape sequence_front opened control_from
returns-clause-plain c = refl

pub returns-clause-sequence : goal.returns-clause-sequence
unfolding pieces first_pieces leading_piece at_escape sequence_front opened control_from
returns-clause-sequence c = refl

pub returns-clause-broken : goal.returns-clause-broken
unfolding pieces first_pieces leading_piece at_escape sequence_front opened control_from
returns-clause-broken c = refl
