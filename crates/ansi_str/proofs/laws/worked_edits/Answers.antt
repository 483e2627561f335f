-- Pieces and characters are computed.
use Rattle.std.specs.Prelude.{codes}
use Rattle.std.specs.Str.{chars}
use Rattle.std.proofs.Common.{length, ◌++◌, refl, ap, sym}
use Rattle.ansi_scan.specs.Pieces.{pieces, first_pieces, leading_piece, at_escape, sequence_front, opened, control_from, string_from, escape_from}
use Rattle.ansi_scan.specs.Attributes.{plain_attributes}
use Rattle.ansi_scan.specs.Rendition.{applied, after_parameters}
use Rattle.ansi_str.specs.Keeping.{without_front}
use Rattle.ansi_str.specs.WorkedCuts.{red_text}
use Rattle.ansi_str_search.proofs.Worked.{ArePiecesOf-worked}
use Rattle.ansi_str.proofs.laws.worked_edits.Goals as goal

pub returns-clause-before : goal.returns-clause-before
unfolding pieces first_pieces leading_piece at_escape sequence_front opened control_from string_from escape_from
returns-clause-before c = ArePiecesOf-worked (codes "\u{1b}[31mab\u{1b}[0mc") red_text refl

pub returns-clause-taken : goal.returns-clause-taken
unfolding pieces first_pieces leading_piece at_escape sequence_front opened control_from string_from escape_from
returns-clause-taken c = λ prefix is_a. record {
  pieces = red_text;
  of_text = ArePiecesOf-worked (codes "\u{1b}[31mab\u{1b}[0mc") red_text refl;
  leaves = ((codes "bc", ap (λ bytes. bytes ++ codes "bc") (sym is_a)), ap (λ bytes. without_front (length bytes) red_text) (sym is_a));
}

pub returns-clause-slice : goal.returns-clause-slice
unfolding chars applied after_parameters plain_attributes
returns-clause-slice c = refl

pub returns-clause-shown : goal.returns-clause-shown
unfolding chars applied after_parameters plain_attributes pieces first_pieces leading_piece at_escape sequence_front opened control_from string_from escape_from
returns-clause-shown c = refl
