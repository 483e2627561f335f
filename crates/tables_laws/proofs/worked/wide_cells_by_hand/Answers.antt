-- Each is computed.
use Rattle.std.proofs.Common.{refl}
use Rattle.tabled_steps.specs.Sizes.{natural_widths, natural_heights}
use Rattle.grid_records_estimate.specs.Estimates.{track_sizes}
use Rattle.tabled_size_wrap.specs.Bytes.{cut_at, wrapped_text}
use Rattle.grid_records_measure.specs.TextLines.{text_width, text_height, text_lines}
use Rattle.ansi_scan.specs.Pieces.{pieces, first_pieces, leading_piece, at_escape, sequence_front, opened, control_from, string_from, escape_from}
use Rattle.ansi_scan.specs.Rendition.{applied, after_parameters}
use Rattle.ansi_scan.specs.Attributes.{plain_attributes}
use Rattle.ansi_scan.specs.StartsAndEnds.{start_bytes, start_sequences, end_bytes, end_sequences}
use Rattle.std.specs.Fmt.{digits}
use Rattle.std.specs.Str.{chars}
use Rattle.std.proofs.Math.Utf8.{encode}
use Rattle.unicode_width.specs.Width.{alone, char_width, past_emoji, step, str_width}
use Rattle.tables_laws.proofs.worked.wide_cells_by_hand.Goals as goal

pub returns-clause-first : goal.returns-clause-first
unfolding natural_widths natural_heights track_sizes cut_at wrapped_text text_width text_height text_lines str_width char_width alone step past_emoji pieces first_pieces leading_piece at_escape sequence_front opened control_from string_from escape_from applied after_parameters plain_attributes start_bytes start_sequences end_bytes end_sequences digits chars encode
returns-clause-first c = refl

pub returns-clause-second : goal.returns-clause-second
unfolding natural_widths natural_heights track_sizes cut_at wrapped_text text_width text_height text_lines str_width char_width alone step past_emoji pieces first_pieces leading_piece at_escape sequence_front opened control_from string_from escape_from applied after_parameters plain_attributes start_bytes start_sequences end_bytes end_sequences digits chars encode
returns-clause-second c = refl

pub returns-clause-none : goal.returns-clause-none
unfolding natural_widths natural_heights track_sizes cut_at wrapped_text text_width text_height text_lines str_width char_width alone step past_emoji pieces first_pieces leading_piece at_escape sequence_front opened control_from string_from escape_from applied after_parameters plain_attributes start_bytes start_sequences end_bytes end_sequences digits chars encode
returns-clause-none c = refl
