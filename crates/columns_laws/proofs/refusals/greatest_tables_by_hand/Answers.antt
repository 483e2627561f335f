-- The sizes are computed: what is left is to compare numbers.
use Rattle.std.proofs.Common.{arith, refl}
use Rattle.std.specs.Prelude.{codes}
use Rattle.std.specs.Fmt.{digits}
use Rattle.std.specs.Str.{chars}
use Rattle.std.proofs.Math.Utf8.{encode}
use Rattle.ansi_scan.specs.Attributes.{plain_attributes}
use Rattle.ansi_scan.specs.Pieces.{pieces, first_pieces, leading_piece, at_escape, sequence_front, opened, control_from, string_from, escape_from}
use Rattle.ansi_scan.specs.Rendition.{applied, after_parameters}
use Rattle.ansi_scan.specs.StartsAndEnds.{start_bytes, start_sequences, end_bytes, end_sequences}
use Rattle.columns_asked.specs.DrawnTables.{AskedInRange, asked_widths, resized_rows}
use Rattle.columns_asked.specs.Shrunk.{shrunk_list}
use Rattle.grid_config_values.specs.Spans.Spans.{extent_at}
use Rattle.grid_records_estimate.specs.Estimates.{track_sizes}
use Rattle.grid_records_estimate.specs.Sizes.{table_heights, table_widths}
use Rattle.grid_records_measure.specs.TextLines.{text_height, text_lines, text_width}
use Rattle.tabled_size_wrap.specs.Bytes.{cut_at, wrapped_text}
use Rattle.unicode_width.specs.Width.{alone, char_width, past_emoji, step, str_width}
use Rattle.ansi_scan.proofs.Existence.{ArePiecesOf-pieces}
use Rattle.columns_run.specs.DrawnTables.{TableInRange}
use Rattle.columns_laws.proofs.refusals.greatest_tables_by_hand.Goals as goal

pub returns-clause-widest : goal.returns-clause-widest
unfolding TableInRange AskedInRange resized_rows asked_widths shrunk_list wrapped_text cut_at table_widths table_heights track_sizes text_width text_height extent_at str_width char_width alone step past_emoji pieces first_pieces leading_piece at_escape sequence_front opened control_from string_from escape_from text_lines applied after_parameters plain_attributes start_bytes start_sequences end_bytes end_sequences digits chars encode
returns-clause-widest c = ((omega arith, omega arith), (omega arith, omega arith))

pub returns-clause-highest : goal.returns-clause-highest
unfolding TableInRange AskedInRange resized_rows asked_widths shrunk_list wrapped_text cut_at table_widths table_heights track_sizes text_width text_height extent_at str_width char_width alone step past_emoji pieces first_pieces leading_piece at_escape sequence_front opened control_from string_from escape_from text_lines applied after_parameters plain_attributes start_bytes start_sequences end_bytes end_sequences digits chars encode
returns-clause-highest c = ((omega arith, omega arith), (omega arith, omega arith))

pub returns-clause-too_wide : goal.returns-clause-too_wide
unfolding TableInRange AskedInRange resized_rows asked_widths shrunk_list wrapped_text cut_at table_widths table_heights track_sizes text_width text_height extent_at str_width char_width alone step past_emoji pieces first_pieces leading_piece at_escape sequence_front opened control_from string_from escape_from text_lines applied after_parameters plain_attributes start_bytes start_sequences end_bytes end_sequences digits chars encode
returns-clause-too_wide c = λ fits. let below = fits.0.0 in omega (arith, below)

pub returns-clause-too_high : goal.returns-clause-too_high
unfolding TableInRange AskedInRange resized_rows asked_widths shrunk_list wrapped_text cut_at table_widths table_heights track_sizes text_width text_height extent_at str_width char_width alone step past_emoji pieces first_pieces leading_piece at_escape sequence_front opened control_from string_from escape_from text_lines applied after_parameters plain_attributes start_bytes start_sequences end_bytes end_sequences digits chars encode
returns-clause-too_high c = λ fits. let below = fits.0.1 in omega (arith, below)

pub returns-clause-refused : goal.returns-clause-refused
unfolding TableInRange AskedInRange resized_rows asked_widths shrunk_list wrapped_text cut_at table_widths table_heights track_sizes text_width text_height extent_at str_width char_width alone step past_emoji pieces first_pieces leading_piece at_escape sequence_front opened control_from string_from escape_from text_lines applied after_parameters plain_attributes start_bytes start_sequences end_bytes end_sequences digits chars encode
returns-clause-refused c = (
  (codes "a\n", (refl, refl)),
  record { pieces = pieces (codes "a\n"); of_text = ArePiecesOf-pieces (codes "a\n"); none_broken = ((λ same. cc same), tt) },
  (λ fits. let below = fits.0.0 in omega (arith, below)),
)
