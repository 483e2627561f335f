-- What each column needs is computed.
use Rattle.std.specs.Fmt.{digits}
use Rattle.std.specs.Str.{chars, trim_end, trim_start}
use Rattle.std.proofs.Math.Utf8.{encode}
use Rattle.unicode_width.specs.Width.{alone, char_width, past_emoji, step, str_width}
use Rattle.ansi_scan.specs.Attributes.{plain_attributes}
use Rattle.ansi_scan.specs.Pieces.{at_escape, control_from, escape_from, first_pieces, leading_piece, opened, pieces, sequence_front, string_from}
use Rattle.ansi_scan.specs.Rendition.{after_parameters, applied}
use Rattle.ansi_scan.specs.StartsAndEnds.{end_bytes, end_sequences, start_bytes, start_sequences}
use Rattle.ansi_str_search.specs.PartsLeft.{first_match}
use Rattle.ansi_str_search.proofs.MatchLists.{matches_from}
use Rattle.grid_records_measure.specs.CutTexts.{cut_at}
use Rattle.grid_records_measure.specs.TextLines.{text_lines, text_width}
use Rattle.tabled_size_wrap.specs.Bytes.{wrapped_text}
use Rattle.std.specs.Prelude.{count_by, if◌then◌else◌}
use Rattle.std.proofs.Common.{◌≡◌, ◌∷◌, ◌&&◌, ◌==◌, [], Bool, List, ℕ, ap, codes, false, length, refl, subst, sym, true}
use Rattle.basinmug_columns.specs.Shown.{columns_that_fit, numbered}
use Rattle.basinmug_columns.specs.declared.shown.ShownColumn.{ShownColumn}
use Rattle.basinmug_columns.specs.declared.shown.ShownColumn.TheVariants.{LeftOut, Number as Shown}
use Rattle.program_options.specs.declared.basinmug.ColumnChoice.{ColumnChoice}
use Rattle.basinmug_run.specs.Columns.{are_none, is_of_input}
use Rattle.basinmug_run.specs.Picture.Pictures.{needs_in}
use Rattle.basinmug_laws.proofs.WorkedLemmas.{all-fit, all-wanted, fit, fit-wanted, two-fit}
use Rattle.basinmug_laws.proofs.worked.tables_by_hand.Goals as goal

pub returns-clause-all_fit : goal.returns-clause-all_fit
returns-clause-all_fit c = λ options none. fit-wanted 17 options.columns.items _ _ none all-fit

pub returns-clause-two_fit : goal.returns-clause-two_fit
returns-clause-two_fit c = λ options none. fit-wanted 16 options.columns.items _ _ none two-fit

-- how many are of the input, and of how many
counts : (width : ℕ) (choices : List ColumnChoice) (chosen shown : List ShownColumn) → choices ≡ [] → fit width (numbered 0 4) ≡ shown
    → ◌≡◌ {A = ℕ × ℕ} (count_by is_of_input (fit width (if are_none choices then numbered 0 4 else chosen)), length (if are_none choices then numbered 0 4 else chosen)) (count_by is_of_input shown, 4)
counts width choices chosen shown none is =
    subst (λ (columns : List ShownColumn). ◌≡◌ {A = ℕ × ℕ} (count_by is_of_input (fit width columns), length columns) (count_by is_of_input shown, 4)) (sym (all-wanted choices (numbered 0 4) chosen none))
    (ap (λ (columns : List ShownColumn). (count_by is_of_input columns, 4)) is)

pub returns-clause-counted : goal.returns-clause-counted
returns-clause-counted c = λ options none. counts 16 options.columns.items _ _ none two-fit

-- whether these are all
whole-of : (width : ℕ) (choices : List ColumnChoice) (shown : List ShownColumn) (same : Bool) → choices ≡ [] → fit width (numbered 0 4) ≡ shown → (count_by is_of_input shown == 4) ≡ same
    → (are_none choices && (count_by is_of_input (fit width (if are_none choices then numbered 0 4 else [])) == length (if are_none choices then numbered 0 4 else []))) ≡ same
whole-of width [] shown same none is counted = subst (λ (columns : List ShownColumn). (count_by is_of_input columns == 4) ≡ same) (sym is) counted
whole-of width (choice ∷ choices) shown same none is counted = cc none

pub returns-clause-whole : goal.returns-clause-whole
returns-clause-whole c = λ options none. whole-of 17 options.columns.items _ true none all-fit refl

pub returns-clause-not_whole : goal.returns-clause-not_whole
returns-clause-not_whole c = λ options none. whole-of 16 options.columns.items _ false none two-fit refl

-- a column of numbers
abbrev numbers : List (List (List ℕ))
numbers = (codes "n" ∷ codes "x" ∷ []) ∷ (codes "123456789012" ∷ codes "a" ∷ []) ∷ []

number-fits : columns_that_fit (needs_in true numbers) true 19 (numbered 0 2) ≡ Shown 0 ∷ LeftOut ∷ []
unfolding chars trim_end trim_start pieces first_pieces leading_piece at_escape sequence_front opened control_from string_from escape_from matches_from first_match applied after_parameters plain_attributes start_bytes start_sequences end_bytes end_sequences digits encode char_width str_width step past_emoji alone text_lines text_width wrapped_text cut_at
number-fits = refl

pub returns-clause-number : goal.returns-clause-number
returns-clause-number c = λ options none.
    subst (λ (columns : List ShownColumn). columns_that_fit (needs_in true numbers) true 19 columns ≡ Shown 0 ∷ LeftOut ∷ []) (sym (all-wanted options.columns.items (numbered 0 2) _ none)) number-fits
