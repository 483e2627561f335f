-- The sequences are found byte by byte.
use Rattle.std.proofs.Common.{refl}
use Rattle.ansi_scan.specs.Pieces.{at_escape, control_from, escape_from, first_pieces, leading_piece, opened, pieces, sequence_front, string_from}
use Rattle.tables_laws.proofs.by_hand.tabs_by_hand.Goals as goal

pub returns-clause-spaces : goal.returns-clause-spaces
unfolding pieces first_pieces leading_piece at_escape sequence_front opened control_from string_from escape_from
returns-clause-spaces c = refl

pub returns-clause-none : goal.returns-clause-none
unfolding pieces first_pieces leading_piece at_escape sequence_front opened control_from string_from escape_from
returns-clause-none c = refl

pub returns-clause-within_a_sequence : goal.returns-clause-within_a_sequence
unfolding pieces first_pieces leading_piece at_escape sequence_front opened control_from string_from escape_from
returns-clause-within_a_sequence c = refl
