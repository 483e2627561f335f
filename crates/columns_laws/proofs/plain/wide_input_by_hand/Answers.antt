-- It is computed; what its lines measure follows from the law of additive inputs.
use Rattle.std.proofs.Common.{◌≡◌, ◌∙◌, ◌∷◌, [], refl}
use Rattle.std.specs.Prelude.{IsUtf8}
use Rattle.std.proofs.lemmas.List.Elements.{All-nil}
use Rattle.ansi_scan.specs.Sequences.{NoneBroken}
use Rattle.ansi_scan.proofs.Existence.{ArePiecesOf-pieces}
use Rattle.program_options.specs.Columns.ColumnColors.{AllClose}
use Rattle.program_options.specs.Columns.Settings.{default_settings}
use Rattle.columns_run.specs.Widths.{taken_columns}
use Rattle.columns_run.proofs.Plain.{default-narrow_glyphs}
use Rattle.columns_laws.proofs.PlainLemmas.EvenLines.{measured-additive}
use Rattle.columns_laws.specs.Plain.AdditiveInputs.{HasAdditiveGlyphs, IsAdditiveInput, ideographs, in_five_columns}
use Rattle.std.specs.Fmt.{digits}
use Rattle.std.specs.Str.{chars}
use Rattle.std.proofs.Math.Utf8.{encode}
use Rattle.ansi_scan.specs.Attributes.{plain_attributes}
use Rattle.ansi_scan.specs.Pieces.{pieces, first_pieces, leading_piece, at_escape, sequence_front, opened, control_from, string_from, escape_from}
use Rattle.ansi_scan.specs.Rendition.{applied, after_parameters}
use Rattle.ansi_scan.specs.StartsAndEnds.{start_bytes, start_sequences, end_bytes, end_sequences}
use Rattle.columns_asked.specs.DrawnTables.{asked_widths, resized_rows}
use Rattle.columns_asked.specs.Shrunk.{shrunk_list}
use Rattle.columns_asked.specs.Colors.ColoredTables.{colored_text}
use Rattle.columns_run.specs.DrawnTables.{output_of, resized_texts, grid_of}
use Rattle.grid_config_values.specs.Spans.Spans.{extent_at}
use Rattle.grid_records_estimate.specs.Estimates.{track_sizes}
use Rattle.grid_records_estimate.specs.Sizes.{table_heights, table_widths}
use Rattle.grid_records_measure.specs.TextLines.{text_height, text_lines, text_width}
use Rattle.tabled_size_wrap.specs.Bytes.{cut_at, wrapped_text}
use Rattle.unicode_width.proofs.Computing.{unicode_width}
use Rattle.columns_laws.proofs.plain.wide_input_by_hand.Goals as goal

is-text : IsUtf8 ideographs
unfolding encode
is-text = (0x65e5 ∷ 0x672c ∷ 0x0a ∷ [], (refl, refl))

no-broken : NoneBroken (pieces ideographs)
unfolding pieces first_pieces leading_piece at_escape sequence_front opened control_from string_from escape_from
no-broken = (λ e. absurd (cc e), tt)

is-additive : IsAdditiveInput ideographs
unfolding pieces first_pieces leading_piece at_escape sequence_front opened control_from string_from escape_from chars
is-additive = record {
  utf8 = is-text;
  whole = record { pieces = pieces ideographs; of_text = ArePiecesOf-pieces ideographs; none_broken = no-broken };
  shown = refl;
}

pub returns-clause-additive : goal.returns-clause-additive
returns-clause-additive c = is-additive

pub returns-clause-output : goal.returns-clause-output
unfolding unicode_width output_of resized_texts colored_text resized_rows asked_widths shrunk_list wrapped_text cut_at table_widths table_heights track_sizes text_width text_height extent_at pieces first_pieces leading_piece at_escape sequence_front opened control_from string_from escape_from text_lines applied after_parameters plain_attributes start_bytes start_sequences end_bytes end_sequences digits chars encode
returns-clause-output c = refl

taken : taken_columns in_five_columns ideographs ≡ 5
unfolding unicode_width grid_of resized_texts colored_text resized_rows asked_widths shrunk_list wrapped_text cut_at table_widths table_heights track_sizes text_width text_height extent_at pieces first_pieces leading_piece at_escape sequence_front opened control_from string_from escape_from text_lines applied after_parameters plain_attributes start_bytes start_sequences end_bytes end_sequences digits chars encode
taken = refl

none-given : AllClose in_five_columns.colors
none-given = All-nil _

glyphs : HasAdditiveGlyphs default_settings
glyphs = record {
  glyphs = ((refl, refl, refl), (refl, refl, refl), (refl, refl, refl), (refl, refl, refl), (refl, refl, refl));
  margin = (refl, refl, refl, refl);
  padding = (refl, refl, refl, refl);
}

pub returns-clause-lines : goal.returns-clause-lines
returns-clause-lines c = λ y inside. measured-additive in_five_columns ideographs y default-narrow_glyphs glyphs none-given is-additive inside ∙ taken
