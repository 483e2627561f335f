-- Each setting has one outcome, which is computed.
use Rattle.std.proofs.Common.{refl, true, false}
use Rattle.std.specs.Prelude.{codes}
use Rattle.grid_config_values.specs.Glyphs.{no_borders}
use Rattle.grid_config_values.specs.declared.alignment.AlignmentHorizontal.TheVariants.{Right}
use Rattle.grid_config_values.specs.declared.alignment.AlignmentVertical.TheVariants.{Bottom}
use Rattle.grid_config_values.specs.declared.entity.Entity.TheVariants.{Column as OneColumn, Global as EveryCell}
use Rattle.grid_config_values.specs.declared.fault.Fault.TheVariants.{Spans as BadSpan}
use Rattle.papergrid_picture.specs.Colors.Worked.{red}
use Rattle.papergrid_picture.specs.Picture.{at}
use Rattle.tabled_list.specs.Settings.{coloring}
use Rattle.tabled_steps.specs.Looks.{with_alignment_horizontal, with_alignment_vertical, with_borders, with_column_span, with_justification, with_line_alignment, with_margin, with_padding, with_row_span, with_trim_horizontal, with_trim_vertical}
use Rattle.tabled_steps.specs.States.{looking, positive}
use Rattle.tables_laws.proofs.WorkedLemmas.Steps.{colored_by, looked, one-outcome, refused}
use Rattle.tables_laws.specs.Worked.Tables.{at_the_right, below, beside, marked_sides, of_one, square}
use Rattle.tabled_steps.specs.Sizes.{natural_widths, natural_heights}
use Rattle.grid_records_estimate.specs.Estimates.{track_sizes}
use Rattle.tabled_size_wrap.specs.Bytes.{cut_at, wrapped_text}
use Rattle.grid_records_measure.specs.Trimming.{trimmed}
use Rattle.grid_records_measure.specs.TextLines.{text_width, text_height, text_lines}
use Rattle.ansi_scan.specs.Pieces.{pieces, first_pieces, leading_piece, at_escape, sequence_front, opened, control_from, string_from, escape_from}
use Rattle.ansi_scan.specs.Rendition.{applied, after_parameters}
use Rattle.ansi_scan.specs.Attributes.{plain_attributes}
use Rattle.ansi_scan.specs.StartsAndEnds.{start_bytes, start_sequences, end_bytes, end_sequences}
use Rattle.std.specs.Fmt.{digits}
use Rattle.std.specs.Str.{chars, trim_end, trim_start}
use Rattle.std.proofs.Math.Utf8.{encode}
use Rattle.unicode_width.specs.Width.{alone, char_width, past_emoji, step, str_width}
use Rattle.tables_laws.proofs.worked.settings_by_hand.Goals as goal

pub returns-clause-padding : goal.returns-clause-padding
unfolding natural_widths natural_heights track_sizes cut_at wrapped_text text_width text_height text_lines str_width char_width alone step past_emoji pieces first_pieces leading_piece at_escape sequence_front opened control_from string_from escape_from applied after_parameters plain_attributes start_bytes start_sequences end_bytes end_sequences digits chars encode
returns-clause-padding c = one-outcome (looking (with_padding EveryCell (marked_sides 2 1 1 0))) (of_one (codes "a")) (looked (with_padding EveryCell (marked_sides 2 1 1 0)) (of_one (codes "a"))) (codes "+----+\n|^^^^|\n|<<a>|\n+----+") refl refl

pub returns-clause-margin : goal.returns-clause-margin
unfolding natural_widths natural_heights track_sizes cut_at wrapped_text text_width text_height text_lines str_width char_width alone step past_emoji pieces first_pieces leading_piece at_escape sequence_front opened control_from string_from escape_from applied after_parameters plain_attributes start_bytes start_sequences end_bytes end_sequences digits chars encode
returns-clause-margin c = one-outcome (looking (with_margin (marked_sides 1 2 1 1))) (of_one (codes "a")) (looked (with_margin (marked_sides 1 2 1 1)) (of_one (codes "a"))) (codes "^^^^^^^^\n<+---+>>\n<| a |>>\n<+---+>>\n________") refl refl

pub returns-clause-borders : goal.returns-clause-borders
unfolding natural_widths natural_heights track_sizes cut_at wrapped_text text_width text_height text_lines str_width char_width alone step past_emoji pieces first_pieces leading_piece at_escape sequence_front opened control_from string_from escape_from applied after_parameters plain_attributes start_bytes start_sequences end_bytes end_sequences digits chars encode
returns-clause-borders c = one-outcome (looking (with_borders no_borders)) (of_one (codes "a")) (looked (with_borders no_borders) (of_one (codes "a"))) (codes " a ") refl refl

pub returns-clause-right : goal.returns-clause-right
unfolding natural_widths natural_heights track_sizes cut_at wrapped_text text_width text_height text_lines str_width char_width alone step past_emoji pieces first_pieces leading_piece at_escape sequence_front opened control_from string_from escape_from applied after_parameters plain_attributes start_bytes start_sequences end_bytes end_sequences digits chars encode
returns-clause-right c = one-outcome (looking (with_alignment_horizontal (OneColumn 0) Right)) (below (codes "a") (codes "bcd")) (looked (with_alignment_horizontal (OneColumn 0) Right) (below (codes "a") (codes "bcd"))) (codes "+-----+\n|   a |\n+-----+\n| bcd |\n+-----+") refl refl

pub returns-clause-other_column : goal.returns-clause-other_column
unfolding natural_widths natural_heights track_sizes cut_at wrapped_text text_width text_height text_lines str_width char_width alone step past_emoji pieces first_pieces leading_piece at_escape sequence_front opened control_from string_from escape_from applied after_parameters plain_attributes start_bytes start_sequences end_bytes end_sequences digits chars encode
returns-clause-other_column c = one-outcome (looking (with_alignment_horizontal (OneColumn 1) Right)) (below (codes "a") (codes "bcd")) (looked (with_alignment_horizontal (OneColumn 1) Right) (below (codes "a") (codes "bcd"))) (codes "+-----+\n| a   |\n+-----+\n| bcd |\n+-----+") refl refl

pub returns-clause-bottom : goal.returns-clause-bottom
unfolding natural_widths natural_heights track_sizes cut_at wrapped_text text_width text_height text_lines str_width char_width alone step past_emoji pieces first_pieces leading_piece at_escape sequence_front opened control_from string_from escape_from applied after_parameters plain_attributes start_bytes start_sequences end_bytes end_sequences digits chars encode
returns-clause-bottom c = one-outcome (looking (with_alignment_vertical EveryCell Bottom)) (beside (codes "a") (codes "b\nc")) (looked (with_alignment_vertical EveryCell Bottom) (beside (codes "a") (codes "b\nc"))) (codes "+---+---+\n|   | b |\n| a | c |\n+---+---+") refl refl

pub returns-clause-by_lines : goal.returns-clause-by_lines
unfolding natural_widths natural_heights track_sizes cut_at wrapped_text text_width text_height text_lines str_width char_width alone step past_emoji pieces first_pieces leading_piece at_escape sequence_front opened control_from string_from escape_from applied after_parameters plain_attributes start_bytes start_sequences end_bytes end_sequences digits chars encode
returns-clause-by_lines c = one-outcome (looking (with_line_alignment EveryCell true)) (at_the_right (of_one (codes "ab\nc"))) (looked (with_line_alignment EveryCell true) (at_the_right (of_one (codes "ab\nc")))) (codes "+----+\n| ab |\n|  c |\n+----+") refl refl

pub returns-clause-as_a_block : goal.returns-clause-as_a_block
unfolding natural_widths natural_heights track_sizes cut_at wrapped_text text_width text_height text_lines str_width char_width alone step past_emoji pieces first_pieces leading_piece at_escape sequence_front opened control_from string_from escape_from applied after_parameters plain_attributes start_bytes start_sequences end_bytes end_sequences digits chars encode
returns-clause-as_a_block c = one-outcome (looking (with_line_alignment EveryCell false)) (at_the_right (of_one (codes "ab\nc"))) (looked (with_line_alignment EveryCell false) (at_the_right (of_one (codes "ab\nc")))) (codes "+----+\n| ab |\n| c  |\n+----+") refl refl

pub returns-clause-trimmed : goal.returns-clause-trimmed
unfolding natural_widths natural_heights track_sizes cut_at wrapped_text text_width text_height text_lines str_width char_width alone step past_emoji pieces first_pieces leading_piece at_escape sequence_front opened control_from string_from escape_from applied after_parameters plain_attributes start_bytes start_sequences end_bytes end_sequences trimmed trim_start trim_end digits chars encode
returns-clause-trimmed c = one-outcome (looking (with_trim_horizontal EveryCell true)) (of_one (codes " a")) (looked (with_trim_horizontal EveryCell true) (of_one (codes " a"))) (codes "+----+\n| a  |\n+----+") refl refl

pub returns-clause-trimmed_lines : goal.returns-clause-trimmed_lines
unfolding natural_widths natural_heights track_sizes cut_at wrapped_text text_width text_height text_lines str_width char_width alone step past_emoji pieces first_pieces leading_piece at_escape sequence_front opened control_from string_from escape_from applied after_parameters plain_attributes start_bytes start_sequences end_bytes end_sequences trim_start trim_end digits chars encode
returns-clause-trimmed_lines c = one-outcome (looking (with_trim_vertical EveryCell true)) (of_one (codes "\na")) (looked (with_trim_vertical EveryCell true) (of_one (codes "\na"))) (codes "+---+\n| a |\n|   |\n+---+") refl refl

pub returns-clause-justified : goal.returns-clause-justified
unfolding natural_widths natural_heights track_sizes cut_at wrapped_text text_width text_height text_lines str_width char_width alone step past_emoji pieces first_pieces leading_piece at_escape sequence_front opened control_from string_from escape_from applied after_parameters plain_attributes start_bytes start_sequences end_bytes end_sequences digits chars encode
returns-clause-justified c = one-outcome (looking (with_justification EveryCell 0x2e)) (below (codes "a") (codes "bc")) (looked (with_justification EveryCell 0x2e) (below (codes "a") (codes "bc"))) (codes "+----+\n| a. |\n+----+\n| bc |\n+----+") refl refl

pub returns-clause-other_fill : goal.returns-clause-other_fill
unfolding natural_widths natural_heights track_sizes cut_at wrapped_text text_width text_height text_lines str_width char_width alone step past_emoji pieces first_pieces leading_piece at_escape sequence_front opened control_from string_from escape_from applied after_parameters plain_attributes start_bytes start_sequences end_bytes end_sequences digits chars encode
returns-clause-other_fill c = one-outcome (looking (with_justification (OneColumn 1) 0x2e)) (below (codes "a") (codes "bc")) (looked (with_justification (OneColumn 1) 0x2e) (below (codes "a") (codes "bc"))) (codes "+----+\n| a  |\n+----+\n| bc |\n+----+") refl refl

pub returns-clause-two_columns : goal.returns-clause-two_columns
unfolding natural_widths natural_heights track_sizes cut_at wrapped_text text_width text_height text_lines str_width char_width alone step past_emoji pieces first_pieces leading_piece at_escape sequence_front opened control_from string_from escape_from applied after_parameters plain_attributes start_bytes start_sequences end_bytes end_sequences digits chars encode
returns-clause-two_columns c = one-outcome (positive 2 (looking (with_column_span (at 0 0) 2))) square (looked (with_column_span (at 0 0) 2) square) (codes "+---+---+\n| a     |\n+---+---+\n| c | d |\n+---+---+") refl refl

pub returns-clause-two_rows : goal.returns-clause-two_rows
unfolding natural_widths natural_heights track_sizes cut_at wrapped_text text_width text_height text_lines str_width char_width alone step past_emoji pieces first_pieces leading_piece at_escape sequence_front opened control_from string_from escape_from applied after_parameters plain_attributes start_bytes start_sequences end_bytes end_sequences digits chars encode
returns-clause-two_rows c = one-outcome (positive 2 (looking (with_row_span (at 0 0) 2))) square (looked (with_row_span (at 0 0) 2) square) (codes "+---+---+\n| a | b |\n+   +---+\n|   | d |\n+---+---+") refl refl

pub returns-clause-colored : goal.returns-clause-colored
unfolding natural_widths natural_heights track_sizes cut_at wrapped_text text_width text_height text_lines str_width char_width alone step past_emoji pieces first_pieces leading_piece at_escape sequence_front opened control_from string_from escape_from applied after_parameters plain_attributes start_bytes start_sequences end_bytes end_sequences digits chars encode
returns-clause-colored c = one-outcome (coloring (OneColumn 1) red) (beside (codes "a") (codes "b")) (colored_by (OneColumn 1) red (beside (codes "a") (codes "b"))) (codes "+---+---+\n| a | \u{1b}[31mb\u{1b}[39m |\n+---+---+") refl refl

pub returns-clause-no_columns : goal.returns-clause-no_columns
returns-clause-no_columns c = λ s outcome taken. refused (positive 0 (looking (with_column_span (at 0 0) 0))) s BadSpan outcome refl taken

pub returns-clause-no_rows : goal.returns-clause-no_rows
returns-clause-no_rows c = λ s outcome taken. refused (positive 0 (looking (with_row_span (at 0 0) 0))) s BadSpan outcome refl taken
