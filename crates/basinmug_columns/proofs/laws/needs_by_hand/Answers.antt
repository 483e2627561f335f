-- Each step is computed.
use Rattle.std.specs.Str.{chars}
use Rattle.std.proofs.Common.{refl}
use Rattle.std.proofs.Math.Utf8.{encode}
use Rattle.unicode_width.specs.Width.{alone, char_width, past_emoji, step, str_width}
use Rattle.ansi_scan.specs.Pieces.{at_escape, control_from, escape_from, first_pieces, leading_piece, opened, pieces, sequence_front, string_from}
use Rattle.grid_records_measure.specs.TextLines.{text_width}
use Rattle.basinmug_columns.proofs.laws.needs_by_hand.Goals as goal

pub returns-clause-widest : goal.returns-clause-widest
unfolding chars pieces first_pieces leading_piece at_escape sequence_front opened control_from string_from escape_from encode char_width str_width step past_emoji alone text_width
returns-clause-widest c = refl

pub returns-clause-eight : goal.returns-clause-eight
unfolding chars pieces first_pieces leading_piece at_escape sequence_front opened control_from string_from escape_from encode char_width str_width step past_emoji alone text_width
returns-clause-eight c = refl

pub returns-clause-numbers : goal.returns-clause-numbers
unfolding chars pieces first_pieces leading_piece at_escape sequence_front opened control_from string_from escape_from encode char_width str_width step past_emoji alone text_width
returns-clause-numbers c = refl

pub returns-clause-most : goal.returns-clause-most
unfolding chars pieces first_pieces leading_piece at_escape sequence_front opened control_from string_from escape_from encode char_width str_width step past_emoji alone text_width
returns-clause-most c = refl

pub returns-clause-header : goal.returns-clause-header
unfolding chars pieces first_pieces leading_piece at_escape sequence_front opened control_from string_from escape_from encode char_width str_width step past_emoji alone text_width
returns-clause-header c = refl

pub returns-clause-padded : goal.returns-clause-padded
unfolding chars pieces first_pieces leading_piece at_escape sequence_front opened control_from string_from escape_from encode char_width str_width step past_emoji alone text_width
returns-clause-padded c = refl

pub returns-clause-styled : goal.returns-clause-styled
unfolding chars pieces first_pieces leading_piece at_escape sequence_front opened control_from string_from escape_from encode char_width str_width step past_emoji alone text_width
returns-clause-styled c = refl

pub returns-clause-blank : goal.returns-clause-blank
unfolding chars pieces first_pieces leading_piece at_escape sequence_front opened control_from string_from escape_from encode char_width str_width step past_emoji alone text_width
returns-clause-blank c = refl

pub returns-clause-other_space : goal.returns-clause-other_space
unfolding chars pieces first_pieces leading_piece at_escape sequence_front opened control_from string_from escape_from encode char_width str_width step past_emoji alone text_width
returns-clause-other_space c = refl

pub returns-clause-short : goal.returns-clause-short
unfolding chars pieces first_pieces leading_piece at_escape sequence_front opened control_from string_from escape_from encode char_width str_width step past_emoji alone text_width
returns-clause-short c = refl

pub returns-clause-records : goal.returns-clause-records
unfolding chars pieces first_pieces leading_piece at_escape sequence_front opened control_from string_from escape_from encode char_width str_width step past_emoji alone text_width
returns-clause-records c = refl
