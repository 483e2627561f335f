-- Each is computed.
use Rattle.std.proofs.Common.{refl}
use Rattle.std.specs.Fmt.{digits}
use Rattle.std.specs.Str.{chars}
use Rattle.std.proofs.Math.Utf8.{encode}
use Rattle.ansi_scan.specs.Attributes.{plain_attributes}
use Rattle.ansi_scan.specs.Pieces.{first_pieces, leading_piece, pieces}
use Rattle.ansi_scan.specs.StartsAndEnds.{start_bytes, start_sequences, end_bytes, end_sequences}
use Rattle.grid_records_measure.specs.CutTexts.{cut_at}
use Rattle.grid_records_measure.specs.TextLines.{text_height, text_lines, text_width}
use Rattle.unicode_width.specs.Width.{alone, char_width, past_emoji, step, str_width}
use Rattle.tabled_compact.proofs.iter.laws.tables_by_hand.Goals as goal

pub returns-clause-past_the_columns : goal.returns-clause-past_the_columns
unfolding text_width text_height text_lines cut_at str_width char_width alone step past_emoji pieces first_pieces leading_piece plain_attributes start_bytes start_sequences end_bytes end_sequences digits chars encode
returns-clause-past_the_columns c = refl

pub returns-clause-lines_past_the_columns : goal.returns-clause-lines_past_the_columns
unfolding text_width text_height text_lines cut_at str_width char_width alone step past_emoji pieces first_pieces leading_piece plain_attributes start_bytes start_sequences end_bytes end_sequences digits chars encode
returns-clause-lines_past_the_columns c = refl

pub returns-clause-past_the_first_row : goal.returns-clause-past_the_first_row
unfolding text_width text_height text_lines cut_at str_width char_width alone step past_emoji pieces first_pieces leading_piece plain_attributes start_bytes start_sequences end_bytes end_sequences digits chars encode
returns-clause-past_the_first_row c = refl

pub returns-clause-short : goal.returns-clause-short
unfolding text_width text_height text_lines cut_at str_width char_width alone step past_emoji pieces first_pieces leading_piece plain_attributes start_bytes start_sequences end_bytes end_sequences digits chars encode
returns-clause-short c = refl

pub returns-clause-cut : goal.returns-clause-cut
unfolding text_width text_height text_lines cut_at str_width char_width alone step past_emoji pieces first_pieces leading_piece plain_attributes start_bytes start_sequences end_bytes end_sequences digits chars encode
returns-clause-cut c = refl

pub returns-clause-one_line : goal.returns-clause-one_line
unfolding text_width text_height text_lines cut_at str_width char_width alone step past_emoji pieces first_pieces leading_piece plain_attributes start_bytes start_sequences end_bytes end_sequences digits chars encode
returns-clause-one_line c = refl

pub returns-clause-two_lines : goal.returns-clause-two_lines
unfolding text_width text_height text_lines cut_at str_width char_width alone step past_emoji pieces first_pieces leading_piece plain_attributes start_bytes start_sequences end_bytes end_sequences digits chars encode
returns-clause-two_lines c = refl

pub returns-clause-own_lines : goal.returns-clause-own_lines
unfolding text_width text_height text_lines cut_at str_width char_width alone step past_emoji pieces first_pieces leading_piece plain_attributes start_bytes start_sequences end_bytes end_sequences digits chars encode
returns-clause-own_lines c = refl

pub returns-clause-kept : goal.returns-clause-kept
unfolding text_width text_height text_lines cut_at str_width char_width alone step past_emoji pieces first_pieces leading_piece plain_attributes start_bytes start_sequences end_bytes end_sequences digits chars encode
returns-clause-kept c = refl
