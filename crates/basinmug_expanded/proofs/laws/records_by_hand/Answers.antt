-- Each step is computed.
use Rattle.std.specs.Fmt.{digits}
use Rattle.std.specs.Str.{chars}
use Rattle.std.proofs.Common.{refl}
use Rattle.std.proofs.Math.Utf8.{encode}
use Rattle.unicode_width.specs.Width.{alone, char_width, past_emoji, step, str_width}
use Rattle.ansi_scan.specs.Pieces.{at_escape, control_from, escape_from, first_pieces, leading_piece, opened, pieces, sequence_front, string_from}
use Rattle.ansi_scan.specs.Attributes.{plain_attributes}
use Rattle.ansi_scan.specs.Rendition.{after_parameters, applied}
use Rattle.ansi_scan.specs.StartsAndEnds.{end_bytes, end_sequences, start_bytes, start_sequences}
use Rattle.ansi_str_search.specs.PartsLeft.{first_match}
use Rattle.ansi_str_search.proofs.MatchLists.{matches_from}
use Rattle.grid_records_measure.specs.CutTexts.{cut_at}
use Rattle.grid_records_measure.specs.TextLines.{text_lines, text_width}
use Rattle.tabled_size_wrap.specs.Bytes.{wrapped_text}
use Rattle.basinmug_expanded.proofs.laws.records_by_hand.Goals as goal

pub returns-clause-one : goal.returns-clause-one
unfolding chars pieces first_pieces leading_piece at_escape sequence_front opened control_from string_from escape_from matches_from first_match applied after_parameters plain_attributes start_bytes start_sequences end_bytes end_sequences digits encode char_width str_width step past_emoji alone text_lines text_width wrapped_text cut_at
returns-clause-one c = refl

pub returns-clause-wide_last : goal.returns-clause-wide_last
unfolding chars pieces first_pieces leading_piece at_escape sequence_front opened control_from string_from escape_from matches_from first_match applied after_parameters plain_attributes start_bytes start_sequences end_bytes end_sequences digits encode char_width str_width step past_emoji alone text_lines text_width wrapped_text cut_at
returns-clause-wide_last c = refl

pub returns-clause-numbered : goal.returns-clause-numbered
unfolding chars pieces first_pieces leading_piece at_escape sequence_front opened control_from string_from escape_from matches_from first_match applied after_parameters plain_attributes start_bytes start_sequences end_bytes end_sequences digits encode char_width str_width step past_emoji alone text_lines text_width wrapped_text cut_at
returns-clause-numbered c = refl

pub returns-clause-none : goal.returns-clause-none
unfolding chars pieces first_pieces leading_piece at_escape sequence_front opened control_from string_from escape_from matches_from first_match applied after_parameters plain_attributes start_bytes start_sequences end_bytes end_sequences digits encode char_width str_width step past_emoji alone text_lines text_width wrapped_text cut_at
returns-clause-none c = refl

pub returns-clause-left_out : goal.returns-clause-left_out
unfolding chars pieces first_pieces leading_piece at_escape sequence_front opened control_from string_from escape_from matches_from first_match applied after_parameters plain_attributes start_bytes start_sequences end_bytes end_sequences digits encode char_width str_width step past_emoji alone text_lines text_width wrapped_text cut_at
returns-clause-left_out c = refl

pub returns-clause-all_left_out : goal.returns-clause-all_left_out
unfolding chars pieces first_pieces leading_piece at_escape sequence_front opened control_from string_from escape_from matches_from first_match applied after_parameters plain_attributes start_bytes start_sequences end_bytes end_sequences digits encode char_width str_width step past_emoji alone text_lines text_width wrapped_text cut_at
returns-clause-all_left_out c = refl
