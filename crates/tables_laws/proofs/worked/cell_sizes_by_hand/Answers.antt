-- Each step has one outcome, which is computed.
use Rattle.std.proofs.Common.{refl, false, true}
use Rattle.std.specs.Prelude.{codes}
use Rattle.grid_config_values.specs.declared.entity.Entity.TheVariants.{Column as OneColumn, Global as EveryCell}
use Rattle.tabled_height.specs.Lines.{limited, raised}
use Rattle.tabled_size.specs.Dimension.Stored.{none_stored}
use Rattle.tabled_steps.specs.Changes.{changing}
use Rattle.tabled_width_texts.specs.Filling.{filling}
use Rattle.tabled_width_texts.specs.WrappedOrCut.{justifying, wrapping_wider}
use Rattle.tables_laws.proofs.WorkedLemmas.Cells.{exact-height, exact-width}
use Rattle.tables_laws.proofs.WorkedLemmas.Steps.{one-outcome}
use Rattle.tables_laws.specs.Worked.Tables.{below, beside, of_one}
use Rattle.tabled_steps.specs.Sizes.{natural_widths, natural_heights}
use Rattle.grid_records_estimate.specs.Estimates.{track_sizes}
use Rattle.tabled_size_wrap.specs.Bytes.{cut_at, wrapped_text}
use Rattle.grid_records_measure.specs.TextLines.{text_width, text_height, text_lines}
use Rattle.ansi_scan.specs.Pieces.{pieces, first_pieces, leading_piece, at_escape, sequence_front, opened, control_from, string_from, escape_from}
use Rattle.ansi_scan.specs.Rendition.{applied, after_parameters}
use Rattle.ansi_scan.specs.Attributes.{plain_attributes}
use Rattle.ansi_scan.specs.StartsAndEnds.{start_bytes, start_sequences, end_bytes, end_sequences}
use Rattle.std.specs.Fmt.{digits}
use Rattle.std.specs.Str.{chars}
use Rattle.std.proofs.Math.Utf8.{encode}
use Rattle.unicode_width.specs.Width.{alone, char_width, past_emoji, step, str_width}
use Rattle.tables_laws.proofs.worked.cell_sizes_by_hand.Goals as goal

pub returns-clause-filled : goal.returns-clause-filled
unfolding natural_widths natural_heights track_sizes cut_at wrapped_text text_width text_height text_lines str_width char_width alone step past_emoji pieces first_pieces leading_piece at_escape sequence_front opened control_from string_from escape_from applied after_parameters plain_attributes start_bytes start_sequences end_bytes end_sequences digits chars encode
returns-clause-filled c = λ outcome taken. one-outcome (changing (λ _. filling 0x2e 3) EveryCell) (of_one (codes "a")) (record (of_one (codes "a..")) { sizes = none_stored }) (codes "+-----+\n| a.. |\n+-----+") refl refl outcome (exact-width (λ n. changing (λ _. filling 0x2e n) EveryCell) 3 (of_one (codes "a")) outcome taken)

pub returns-clause-wrapped : goal.returns-clause-wrapped
unfolding natural_widths natural_heights track_sizes cut_at wrapped_text text_width text_height text_lines str_width char_width alone step past_emoji pieces first_pieces leading_piece at_escape sequence_front opened control_from string_from escape_from applied after_parameters plain_attributes start_bytes start_sequences end_bytes end_sequences digits chars encode
returns-clause-wrapped c = λ outcome taken. one-outcome (changing (λ _. wrapping_wider false 1) EveryCell) (of_one (codes "ab")) (record (of_one (codes "a\nb")) { sizes = none_stored }) (codes "+---+\n| a |\n| b |\n+---+") refl refl outcome (exact-width (λ n. changing (λ _. wrapping_wider false n) EveryCell) 1 (of_one (codes "ab")) outcome taken)

pub returns-clause-by_words : goal.returns-clause-by_words
unfolding natural_widths natural_heights track_sizes cut_at wrapped_text text_width text_height text_lines str_width char_width alone step past_emoji pieces first_pieces leading_piece at_escape sequence_front opened control_from string_from escape_from applied after_parameters plain_attributes start_bytes start_sequences end_bytes end_sequences digits chars encode
returns-clause-by_words c = λ outcome taken. one-outcome (changing (λ _. wrapping_wider true 4) EveryCell) (of_one (codes "ab cd")) (record (of_one (codes "ab \ncd")) { sizes = none_stored }) (codes "+-----+\n| ab  |\n| cd  |\n+-----+") refl refl outcome (exact-width (λ n. changing (λ _. wrapping_wider true n) EveryCell) 4 (of_one (codes "ab cd")) outcome taken)

pub returns-clause-raised : goal.returns-clause-raised
unfolding natural_widths natural_heights track_sizes cut_at wrapped_text text_width text_height text_lines str_width char_width alone step past_emoji pieces first_pieces leading_piece at_escape sequence_front opened control_from string_from escape_from applied after_parameters plain_attributes start_bytes start_sequences end_bytes end_sequences digits chars encode
returns-clause-raised c = λ outcome taken. one-outcome (changing (raised 2) EveryCell) (of_one (codes "a")) (record (of_one (codes "a\n")) { sizes = none_stored }) (codes "+---+\n| a |\n|   |\n+---+") refl refl outcome (exact-height (λ n. changing (raised n) EveryCell) 2 (of_one (codes "a")) outcome taken)

pub returns-clause-limited : goal.returns-clause-limited
unfolding natural_widths natural_heights track_sizes cut_at wrapped_text text_width text_height text_lines str_width char_width alone step past_emoji pieces first_pieces leading_piece at_escape sequence_front opened control_from string_from escape_from applied after_parameters plain_attributes start_bytes start_sequences end_bytes end_sequences digits chars encode
returns-clause-limited c = λ outcome taken. one-outcome (changing (limited 1) EveryCell) (of_one (codes "a\nb")) (record (of_one (codes "a")) { sizes = none_stored }) (codes "+---+\n| a |\n+---+") refl refl outcome (exact-height (λ n. changing (limited n) EveryCell) 1 (of_one (codes "a\nb")) outcome taken)

pub returns-clause-justified : goal.returns-clause-justified
unfolding natural_widths natural_heights track_sizes cut_at wrapped_text text_width text_height text_lines str_width char_width alone step past_emoji pieces first_pieces leading_piece at_escape sequence_front opened control_from string_from escape_from applied after_parameters plain_attributes start_bytes start_sequences end_bytes end_sequences digits chars encode
returns-clause-justified c = λ outcome taken. one-outcome (changing (λ _. justifying 3) EveryCell) (below (codes "a") (codes "bcde")) (record (below (codes "a  ") (codes "bcd")) { sizes = none_stored }) (codes "+-----+\n| a   |\n+-----+\n| bcd |\n+-----+") refl refl outcome (exact-width (λ n. changing (λ _. justifying n) EveryCell) 3 (below (codes "a") (codes "bcde")) outcome taken)

pub returns-clause-other_column : goal.returns-clause-other_column
unfolding natural_widths natural_heights track_sizes cut_at wrapped_text text_width text_height text_lines str_width char_width alone step past_emoji pieces first_pieces leading_piece at_escape sequence_front opened control_from string_from escape_from applied after_parameters plain_attributes start_bytes start_sequences end_bytes end_sequences digits chars encode
returns-clause-other_column c = λ outcome taken. one-outcome (changing (limited 1) (OneColumn 1)) (beside (codes "a\nb") (codes "c\nd")) (record (beside (codes "a\nb") (codes "c")) { sizes = none_stored }) (codes "+---+---+\n| a | c |\n| b |   |\n+---+---+") refl refl outcome (exact-height (λ n. changing (limited n) (OneColumn 1)) 1 (beside (codes "a\nb") (codes "c\nd")) outcome taken)
