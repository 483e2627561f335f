-- Pieces, matches and parts are computed.
use Rattle.std.specs.Fmt.{digits}
use Rattle.std.specs.Prelude.{codes}
use Rattle.std.proofs.Common.{[], ◌∷◌, refl}
use Rattle.ansi_scan.specs.Pieces.{pieces, first_pieces, leading_piece, at_escape, sequence_front, opened, control_from, string_from, escape_from}
use Rattle.ansi_scan.specs.Attributes.{plain_attributes}
use Rattle.ansi_scan.specs.Rendition.{applied, after_parameters}
use Rattle.ansi_scan.specs.StartsAndEnds.{start_bytes, start_sequences, end_bytes, end_sequences}
use Rattle.ansi_str_search.specs.Text.StyledText.{strip}
use Rattle.ansi_str_search.specs.PartsLeft.{first_match}
use Rattle.ansi_str_search.specs.WorkedParts.{black_text, two_lines}
use Rattle.ansi_str_search.proofs.MatchLists.{matches_from, AreMatches-worked}
use Rattle.ansi_str_search.proofs.Worked.{ArePiecesOf-worked}
use Rattle.ansi_str_search.proofs.laws.worked_parts.Goals as goal

pub returns-clause-black : goal.returns-clause-black
unfolding pieces first_pieces leading_piece at_escape sequence_front opened control_from string_from escape_from
returns-clause-black c = ArePiecesOf-worked (codes "\u{1b}[30m123:456\u{1b}[39m") black_text refl

pub returns-clause-black_match : goal.returns-clause-black_match
unfolding matches_from first_match
returns-clause-black_match c = AreMatches-worked (codes "456") (strip black_text) (4 ∷ []) refl

pub returns-clause-before : goal.returns-clause-before
unfolding applied after_parameters plain_attributes start_bytes start_sequences end_bytes end_sequences digits
returns-clause-before c = refl

pub returns-clause-behind : goal.returns-clause-behind
unfolding applied after_parameters plain_attributes start_bytes start_sequences end_bytes end_sequences digits
returns-clause-behind c = refl

pub returns-clause-lines : goal.returns-clause-lines
unfolding pieces first_pieces leading_piece at_escape sequence_front opened control_from string_from escape_from
returns-clause-lines c = ArePiecesOf-worked (codes "\u{1b}[2;48;5;10m\u{1b}[38;5;20mDar\nren\u{1b}[0m") two_lines refl

pub returns-clause-line_match : goal.returns-clause-line_match
unfolding matches_from first_match
returns-clause-line_match c = AreMatches-worked (0x0a ∷ []) (strip two_lines) (3 ∷ []) refl

pub returns-clause-first_line : goal.returns-clause-first_line
unfolding applied after_parameters plain_attributes start_bytes start_sequences end_bytes end_sequences digits
returns-clause-first_line c = refl

pub returns-clause-second_line : goal.returns-clause-second_line
unfolding applied after_parameters plain_attributes start_bytes start_sequences end_bytes end_sequences digits
returns-clause-second_line c = refl
