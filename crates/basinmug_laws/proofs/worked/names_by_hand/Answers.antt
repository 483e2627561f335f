-- The columns of the header are looked through.
use Rattle.std.specs.Fmt.{digits}
use Rattle.std.specs.Str.{chars, trim_end, trim_start}
use Rattle.std.proofs.Math.Utf8.{encode}
use Rattle.unicode_width.specs.Width.{alone, char_width, past_emoji, step, str_width}
use Rattle.ansi_scan.specs.Attributes.{plain_attributes}
use Rattle.ansi_scan.specs.Pieces.{at_escape, control_from, escape_from, first_pieces, leading_piece, opened, pieces, sequence_front, string_from}
use Rattle.ansi_scan.specs.Rendition.{after_parameters, applied}
use Rattle.ansi_scan.specs.StartsAndEnds.{end_bytes, end_sequences, start_bytes, start_sequences}
use Rattle.ansi_str_search.specs.PartsLeft.{first_match}
use Rattle.ansi_str_search.proofs.MatchLists.{matches_from}
use Rattle.grid_records_measure.specs.CutTexts.{cut_at}
use Rattle.grid_records_measure.specs.TextLines.{text_lines, text_width}
use Rattle.tabled_size_wrap.specs.Bytes.{wrapped_text}
use Rattle.std.specs.Prelude.{string_bytes}
use Rattle.std.specs.List.{flat_map, position_from}
use Rattle.std.proofs.Common.{◌≡◌, ◌∷◌, ◌++◌, [], List, ℕ, Option, None, Some, ap, codes, refl, subst, sym}
use Rattle.basinmug_columns.specs.Names.{shows}
use Rattle.program_options.specs.declared.basinmug.ColumnName.TheVariants.{Header}
use Rattle.basinmug_run.specs.Columns.{columns_through}
use Rattle.basinmug_run.specs.Picture.Names.{text_if_missing}
use Rattle.std.specs.Option.{option_map}
use Rattle.basinmug_laws.proofs.worked.names_by_hand.Goals as goal

second : position_from (shows (codes "b")) 0 (codes "a" ∷ codes "b" ∷ []) ≡ Some 1
unfolding chars trim_end trim_start pieces first_pieces leading_piece at_escape sequence_front opened control_from string_from escape_from matches_from first_match applied after_parameters plain_attributes start_bytes start_sequences end_bytes end_sequences digits encode char_width str_width step past_emoji alone text_lines text_width wrapped_text cut_at
second = refl

none-of-two : position_from (shows (codes "x")) 0 (codes "a" ∷ codes "b" ∷ []) ≡ None
unfolding chars trim_end trim_start pieces first_pieces leading_piece at_escape sequence_front opened control_from string_from escape_from matches_from first_match applied after_parameters plain_attributes start_bytes start_sequences end_bytes end_sequences digits encode char_width str_width step past_emoji alone text_lines text_width wrapped_text cut_at
none-of-two = refl

none-of-one : position_from (shows (codes "x")) 0 (codes "a" ∷ []) ≡ None
unfolding chars trim_end trim_start pieces first_pieces leading_piece at_escape sequence_front opened control_from string_from escape_from matches_from first_match applied after_parameters plain_attributes start_bytes start_sequences end_bytes end_sequences digits encode char_width str_width step past_emoji alone text_lines text_width wrapped_text cut_at
none-of-one = refl

-- where a name is, by its bytes
place : (bytes name : List ℕ) (header : List (List ℕ)) (at : Option ℕ) → bytes ≡ name → position_from (shows name) 0 header ≡ at → position_from (shows bytes) 0 header ≡ at
place bytes name header at is found = subst (λ (it : List ℕ). position_from (shows it) 0 header ≡ at) (sym is) found

pub returns-clause-chosen : goal.returns-clause-chosen
returns-clause-chosen c = λ name is.
    ap (λ (number : Option ℕ). flat_map (λ ends. columns_through ends) (option_map (λ (it : ℕ). (it, it)) number ∷ [])) (place (string_bytes name) (codes "b") (codes "a" ∷ codes "b" ∷ []) (Some 1) is second)

pub returns-clause-not_missing : goal.returns-clause-not_missing
returns-clause-not_missing c = λ name is.
    ap (λ (number : Option ℕ). flat_map (λ it. text_if_missing it (Header name)) (number ∷ [])) (place (string_bytes name) (codes "b") (codes "a" ∷ codes "b" ∷ []) (Some 1) is second)

pub returns-clause-missing : goal.returns-clause-missing
returns-clause-missing c = λ name is.
    subst (λ (number : Option ℕ). text_if_missing number (Header name) ++ [] ≡ codes "x" ∷ []) (sym (place (string_bytes name) (codes "x") (codes "a" ∷ codes "b" ∷ []) None is none-of-two)) (ap (λ (it : List ℕ). it ∷ []) is)

pub returns-clause-not_aligned : goal.returns-clause-not_aligned
returns-clause-not_aligned c = λ name is.
    subst (λ (number : Option ℕ). text_if_missing number (Header name) ++ [] ≡ codes "x" ∷ []) (sym (place (string_bytes name) (codes "x") (codes "a" ∷ []) None is none-of-one)) (ap (λ (it : List ℕ). it ∷ []) is)
