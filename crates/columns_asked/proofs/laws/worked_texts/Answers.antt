-- Each is computed.
use Rattle.std.proofs.Common.{refl}
use Rattle.std.specs.Fmt.{digits}
use Rattle.std.specs.Str.{chars}
use Rattle.std.proofs.Math.Utf8.{encode}
use Rattle.ansi_scan.specs.Attributes.{plain_attributes}
use Rattle.ansi_scan.specs.Pieces.{pieces, first_pieces, leading_piece, at_escape, sequence_front, opened, control_from, string_from, escape_from}
use Rattle.ansi_scan.specs.Rendition.{applied, after_parameters}
use Rattle.ansi_scan.specs.StartsAndEnds.{start_bytes, start_sequences, end_bytes, end_sequences}
use Rattle.grid_config_values.specs.Spans.Spans.{extent_at}
use Rattle.grid_records_estimate.specs.Estimates.{track_sizes}
use Rattle.grid_records_estimate.specs.Sizes.{table_heights, table_widths}
use Rattle.grid_records_measure.specs.TextLines.{text_height, text_lines, text_width}
use Rattle.tabled_size_wrap.specs.Bytes.{cut_at, wrapped_text}
use Rattle.unicode_width.specs.Width.{alone, char_width, past_emoji, step, str_width}
use Rattle.columns_asked.specs.DrawnTables.{asked_text, asked_widths, resized_rows}
use Rattle.columns_asked.specs.Shrunk.{shrunk_list}
use Rattle.columns_asked.proofs.laws.worked_texts.Goals as goal

pub returns-clause-wrapped : goal.returns-clause-wrapped
unfolding asked_text resized_rows asked_widths shrunk_list wrapped_text cut_at table_widths table_heights track_sizes text_width text_height extent_at str_width char_width alone step past_emoji pieces first_pieces leading_piece at_escape sequence_front opened control_from string_from escape_from text_lines applied after_parameters plain_attributes start_bytes start_sequences end_bytes end_sequences digits chars encode
returns-clause-wrapped c = refl

pub returns-clause-wrapped_behind : goal.returns-clause-wrapped_behind
unfolding asked_text resized_rows asked_widths shrunk_list wrapped_text cut_at table_widths table_heights track_sizes text_width text_height extent_at str_width char_width alone step past_emoji pieces first_pieces leading_piece at_escape sequence_front opened control_from string_from escape_from text_lines applied after_parameters plain_attributes start_bytes start_sequences end_bytes end_sequences digits chars encode
returns-clause-wrapped_behind c = refl

pub returns-clause-cut : goal.returns-clause-cut
unfolding asked_text resized_rows asked_widths shrunk_list wrapped_text cut_at table_widths table_heights track_sizes text_width text_height extent_at str_width char_width alone step past_emoji pieces first_pieces leading_piece at_escape sequence_front opened control_from string_from escape_from text_lines applied after_parameters plain_attributes start_bytes start_sequences end_bytes end_sequences digits chars encode
returns-clause-cut c = refl

pub returns-clause-words : goal.returns-clause-words
unfolding asked_text resized_rows asked_widths shrunk_list wrapped_text cut_at table_widths table_heights track_sizes text_width text_height extent_at str_width char_width alone step past_emoji pieces first_pieces leading_piece at_escape sequence_front opened control_from string_from escape_from text_lines applied after_parameters plain_attributes start_bytes start_sequences end_bytes end_sequences digits chars encode
returns-clause-words c = refl

pub returns-clause-nothing : goal.returns-clause-nothing
unfolding asked_text resized_rows asked_widths shrunk_list wrapped_text cut_at table_widths table_heights track_sizes text_width text_height extent_at str_width char_width alone step past_emoji pieces first_pieces leading_piece at_escape sequence_front opened control_from string_from escape_from text_lines applied after_parameters plain_attributes start_bytes start_sequences end_bytes end_sequences digits chars encode
returns-clause-nothing c = refl

pub returns-clause-in_turns : goal.returns-clause-in_turns
unfolding asked_text resized_rows asked_widths shrunk_list wrapped_text cut_at table_widths table_heights track_sizes text_width text_height extent_at str_width char_width alone step past_emoji pieces first_pieces leading_piece at_escape sequence_front opened control_from string_from escape_from text_lines applied after_parameters plain_attributes start_bytes start_sequences end_bytes end_sequences digits chars encode
returns-clause-in_turns c = refl

pub returns-clause-widest : goal.returns-clause-widest
unfolding asked_text resized_rows asked_widths shrunk_list wrapped_text cut_at table_widths table_heights track_sizes text_width text_height extent_at str_width char_width alone step past_emoji pieces first_pieces leading_piece at_escape sequence_front opened control_from string_from escape_from text_lines applied after_parameters plain_attributes start_bytes start_sequences end_bytes end_sequences digits chars encode
returns-clause-widest c = refl

pub returns-clause-natural : goal.returns-clause-natural
unfolding asked_text resized_rows asked_widths shrunk_list wrapped_text cut_at table_widths table_heights track_sizes text_width text_height extent_at str_width char_width alone step past_emoji pieces first_pieces leading_piece at_escape sequence_front opened control_from string_from escape_from text_lines applied after_parameters plain_attributes start_bytes start_sequences end_bytes end_sequences digits chars encode
returns-clause-natural c = refl

pub returns-clause-wide : goal.returns-clause-wide
unfolding asked_text resized_rows asked_widths shrunk_list wrapped_text cut_at table_widths table_heights track_sizes text_width text_height extent_at str_width char_width alone step past_emoji pieces first_pieces leading_piece at_escape sequence_front opened control_from string_from escape_from text_lines applied after_parameters plain_attributes start_bytes start_sequences end_bytes end_sequences digits chars encode
returns-clause-wide c = refl

pub returns-clause-no_width : goal.returns-clause-no_width
unfolding asked_text resized_rows asked_widths shrunk_list wrapped_text cut_at table_widths table_heights track_sizes text_width text_height extent_at str_width char_width alone step past_emoji pieces first_pieces leading_piece at_escape sequence_front opened control_from string_from escape_from text_lines applied after_parameters plain_attributes start_bytes start_sequences end_bytes end_sequences digits chars encode
returns-clause-no_width c = refl
