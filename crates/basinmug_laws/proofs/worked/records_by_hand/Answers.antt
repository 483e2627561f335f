-- Each line is computed.
use Rattle.std.specs.Fmt.{digits}
use Rattle.std.specs.Str.{chars, trim_end, trim_start}
use Rattle.std.proofs.Math.Utf8.{encode}
use Rattle.unicode_width.specs.Width.{alone, char_width, past_emoji, step, str_width}
use Rattle.ansi_scan.specs.Attributes.{plain_attributes}
use Rattle.ansi_scan.specs.Pieces.{at_escape, control_from, escape_from, first_pieces, leading_piece, opened, pieces, sequence_front, string_from}
use Rattle.ansi_scan.specs.Rendition.{after_parameters, applied}
use Rattle.ansi_scan.specs.StartsAndEnds.{end_bytes, end_sequences, start_bytes, start_sequences}
use Rattle.ansi_str_search.specs.PartsLeft.{first_match}
use Rattle.ansi_str_search.proofs.MatchLists.{matches_from}
use Rattle.grid_records_measure.specs.CutTexts.{cut_at}
use Rattle.grid_records_measure.specs.TextLines.{text_lines, text_width}
use Rattle.tabled_size_wrap.specs.Bytes.{wrapped_text}
use Rattle.std.proofs.Common.{◌≡◌, ◌∷◌, [], List, codes, refl, subst, sym, true}
use Rattle.basinmug_columns.specs.declared.rows.RowsShown.TheVariants.{All as AllShown}
use Rattle.basinmug_columns.specs.Names.{column_number}
use Rattle.program_options.specs.declared.basinmug.ColumnChoice.{ColumnChoice}
use Rattle.basinmug_run.specs.Columns.{chosen_columns, rows_with}
use Rattle.basinmug_run.specs.Picture.Rows.{header_of}
use Rattle.basinmug_run.specs.Runs.{shown_text}
use Rattle.basinmug_run.specs.declared.options.Options.{Options}
use Rattle.basinmug_laws.specs.Worked.{named, with_names}
use Rattle.basinmug_laws.proofs.worked.records_by_hand.Goals as goal

pub returns-clause-named : goal.returns-clause-named
unfolding chars trim_end trim_start pieces first_pieces leading_piece at_escape sequence_front opened control_from string_from escape_from matches_from first_match applied after_parameters plain_attributes start_bytes start_sequences end_bytes end_sequences digits encode char_width str_width step past_emoji alone text_lines text_width wrapped_text cut_at
returns-clause-named c = λ options. refl

pub returns-clause-numbered : goal.returns-clause-numbered
unfolding chars trim_end trim_start pieces first_pieces leading_piece at_escape sequence_front opened control_from string_from escape_from matches_from first_match applied after_parameters plain_attributes start_bytes start_sequences end_bytes end_sequences digits encode char_width str_width step past_emoji alone text_lines text_width wrapped_text cut_at
returns-clause-numbered c = λ options. refl

-- the second column alone
second : (options : Options) → shown_text (with_names options) AllShown ((codes "x" ∷ []) ∷ (codes "1" ∷ []) ∷ []) ≡ codes "-[ RECORD 0 ]-\nx | 1\n"
unfolding chars trim_end trim_start pieces first_pieces leading_piece at_escape sequence_front opened control_from string_from escape_from matches_from first_match applied after_parameters plain_attributes start_bytes start_sequences end_bytes end_sequences digits encode char_width str_width step past_emoji alone text_lines text_width wrapped_text cut_at
second options = refl

pub returns-clause-chosen : goal.returns-clause-chosen
returns-clause-chosen c = λ options is.
    subst (λ (choices : List ColumnChoice). shown_text (with_names options) AllShown (rows_with choices (chosen_columns (column_number (header_of true named)) choices) named) ≡ codes "-[ RECORD 0 ]-\nx | 1\n") (sym is) (second options)
