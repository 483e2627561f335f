-- It is computed; how many columns its lines take follows from the law of plain inputs.
use Rattle.std.proofs.Common.{◌≡◌, refl, ◌∙◌}
use Rattle.std.specs.Fmt.{digits}
use Rattle.std.specs.Prelude.{IsUtf8}
use Rattle.std.specs.Str.{chars}
use Rattle.std.proofs.Math.Utf8.{encode}
use Rattle.std.proofs.lemmas.List.Elements.{All-nil}
use Rattle.ansi_scan.specs.Attributes.{plain_attributes}
use Rattle.ansi_scan.specs.Pieces.{pieces, first_pieces, leading_piece, at_escape, sequence_front, opened, control_from, string_from, escape_from}
use Rattle.ansi_scan.specs.Sequences.{NoneBroken}
use Rattle.ansi_scan.proofs.Existence.{ArePiecesOf-pieces}
use Rattle.ansi_scan.specs.Rendition.{applied, after_parameters}
use Rattle.ansi_scan.specs.StartsAndEnds.{start_bytes, start_sequences, end_bytes, end_sequences}
use Rattle.columns_asked.specs.DrawnTables.{asked_widths, resized_rows}
use Rattle.columns_asked.specs.Shrunk.{shrunk_list}
use Rattle.columns_asked.specs.Colors.ColoredTables.{colored_text}
use Rattle.program_options.specs.Columns.ColumnColors.{AllClose}
use Rattle.columns_run.specs.DrawnTables.{grid_of, output_of, resized_texts}
use Rattle.columns_run.specs.Widths.{taken_columns}
use Rattle.grid_config_values.specs.Spans.Spans.{extent_at}
use Rattle.grid_records_estimate.specs.Estimates.{track_sizes}
use Rattle.grid_records_estimate.specs.Sizes.{table_heights, table_widths}
use Rattle.grid_records_measure.specs.TextLines.{text_height, text_lines, text_width}
use Rattle.tabled_size_wrap.specs.Bytes.{cut_at, wrapped_text}
use Rattle.unicode_width.specs.Width.{alone, char_width, past_emoji, step, str_width}
use Rattle.columns_run.proofs.Plain.{default-narrow_glyphs}
use Rattle.columns_laws.specs.Plain.PlainInputs.{IsPlainInput, in_nine_columns, red_letters}
use Rattle.columns_laws.proofs.PlainLemmas.EvenLines.{even-plain}
use Rattle.columns_laws.proofs.plain.plain_input_by_hand.Goals as goal

is-text : IsUtf8 red_letters
unfolding encode
is-text = (red_letters, (refl, refl))

no-broken : NoneBroken (pieces red_letters)
unfolding pieces first_pieces leading_piece at_escape sequence_front opened control_from string_from escape_from
no-broken = (λ e. absurd (cc e), (λ e. absurd (cc e), (λ e. absurd (cc e), (λ e. absurd (cc e), tt))))

is-plain : IsPlainInput red_letters
unfolding pieces first_pieces leading_piece at_escape sequence_front opened control_from string_from escape_from chars
is-plain = record {
  utf8 = is-text;
  whole = record { pieces = pieces red_letters; of_text = ArePiecesOf-pieces red_letters; none_broken = no-broken };
  plain = refl;
}

pub returns-clause-plain : goal.returns-clause-plain
returns-clause-plain c = is-plain

pub returns-clause-output : goal.returns-clause-output
unfolding output_of resized_texts colored_text resized_rows asked_widths shrunk_list wrapped_text cut_at table_widths table_heights track_sizes text_width text_height extent_at str_width char_width alone step past_emoji pieces first_pieces leading_piece at_escape sequence_front opened control_from string_from escape_from text_lines applied after_parameters plain_attributes start_bytes start_sequences end_bytes end_sequences digits chars encode
returns-clause-output c = refl

taken : taken_columns in_nine_columns red_letters ≡ 9
unfolding grid_of resized_texts colored_text resized_rows asked_widths shrunk_list wrapped_text cut_at table_widths table_heights track_sizes text_width text_height extent_at str_width char_width alone step past_emoji pieces first_pieces leading_piece at_escape sequence_front opened control_from string_from escape_from text_lines applied after_parameters plain_attributes start_bytes start_sequences end_bytes end_sequences digits chars encode
taken = refl

none-given : AllClose in_nine_columns.colors
none-given = All-nil _

pub returns-clause-lines : goal.returns-clause-lines
returns-clause-lines c = λ y inside. even-plain in_nine_columns red_letters y default-narrow_glyphs none-given is-plain inside ∙ taken
