-- Which of four letters' columns fit.
use Rattle.std.specs.Fmt.{digits}
use Rattle.std.specs.Str.{chars, trim_end, trim_start}
use Rattle.std.proofs.Math.Utf8.{encode}
use Rattle.unicode_width.specs.Width.{alone, char_width, past_emoji, step, str_width}
use Rattle.ansi_scan.specs.Attributes.{plain_attributes}
use Rattle.ansi_scan.specs.Pieces.{at_escape, control_from, escape_from, first_pieces, leading_piece, opened, pieces, sequence_front, string_from}
use Rattle.ansi_scan.specs.Rendition.{after_parameters, applied}
use Rattle.ansi_scan.specs.StartsAndEnds.{end_bytes, end_sequences, start_bytes, start_sequences}
use Rattle.ansi_str_search.specs.PartsLeft.{first_match}
use Rattle.ansi_str_search.proofs.MatchLists.{matches_from}
use Rattle.grid_records_measure.specs.CutTexts.{cut_at}
use Rattle.grid_records_measure.specs.TextLines.{text_lines, text_width}
use Rattle.tabled_size_wrap.specs.Bytes.{wrapped_text}
use Rattle.std.specs.Prelude.{if◌then◌else◌}
use Rattle.std.proofs.Common.{◌≡◌, ◌∷◌, [], List, ℕ, false, refl, subst, sym, true}
use Rattle.basinmug_columns.specs.Shown.{columns_that_fit, numbered}
use Rattle.basinmug_columns.specs.declared.shown.ShownColumn.{ShownColumn}
use Rattle.basinmug_columns.specs.declared.shown.ShownColumn.TheVariants.{LeftOut, Number as Shown}
use Rattle.program_options.specs.declared.basinmug.ColumnChoice.{ColumnChoice}
use Rattle.basinmug_run.specs.Columns.{are_none}
use Rattle.basinmug_run.specs.Picture.Pictures.{needs_in}
use Rattle.basinmug_laws.specs.Worked.{letters}

-- the columns of the input where none are chosen
pub all-wanted : (choices : List ColumnChoice) (all chosen : List ShownColumn) → choices ≡ [] → (if are_none choices then all else chosen) ≡ all
all-wanted [] all chosen is = refl
all-wanted (choice ∷ choices) all chosen is = cc is

-- those of four letters that fit
abbrev pub fit : ℕ → List ShownColumn → List ShownColumn
fit width columns = columns_that_fit (needs_in false letters) true width columns

pub all-fit : fit 17 (numbered 0 4) ≡ numbered 0 4
unfolding chars trim_end trim_start pieces first_pieces leading_piece at_escape sequence_front opened control_from string_from escape_from matches_from first_match applied after_parameters plain_attributes start_bytes start_sequences end_bytes end_sequences digits encode char_width str_width step past_emoji alone text_lines text_width wrapped_text cut_at
all-fit = refl

pub two-fit : fit 16 (numbered 0 4) ≡ Shown 0 ∷ LeftOut ∷ Shown 3 ∷ []
unfolding chars trim_end trim_start pieces first_pieces leading_piece at_escape sequence_front opened control_from string_from escape_from matches_from first_match applied after_parameters plain_attributes start_bytes start_sequences end_bytes end_sequences digits encode char_width str_width step past_emoji alone text_lines text_width wrapped_text cut_at
two-fit = refl

pub fit-wanted : (width : ℕ) (choices : List ColumnChoice) (chosen shown : List ShownColumn) → choices ≡ [] → fit width (numbered 0 4) ≡ shown → fit width (if are_none choices then numbered 0 4 else chosen) ≡ shown
fit-wanted width choices chosen shown none is = subst (λ (columns : List ShownColumn). fit width columns ≡ shown) (sym (all-wanted choices (numbered 0 4) chosen none)) is
