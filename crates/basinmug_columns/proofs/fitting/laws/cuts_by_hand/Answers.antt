-- Each step is computed, but for what a wide character costs.
use Rattle.std.specs.Fmt.{digits}
use Rattle.std.specs.Str.{chars}
use Rattle.std.specs.Prelude.{codes, encode_utf8_all}
use Rattle.std.proofs.Common.{◌≡◌, ◌+◌, ◌++◌, ℕ, nat_le, Bool, false, List, [], ◌∷◌, refl, ap, if◌then◌else◌}
use Rattle.std.proofs.Math.Utf8.{encode}
use Rattle.unicode_width.specs.Width.{alone, char_width, past_emoji, step, str_width}
use Rattle.ansi_scan.specs.Pieces.{at_escape, control_from, escape_from, first_pieces, leading_piece, opened, pieces, sequence_front, string_from}
use Rattle.ansi_scan.specs.Attributes.{plain_attributes}
use Rattle.ansi_scan.specs.Rendition.{after_parameters, applied}
use Rattle.ansi_scan.specs.StartsAndEnds.{end_bytes, end_sequences, start_bytes, start_sequences}
use Rattle.ansi_str_search.specs.PartsLeft.{first_match}
use Rattle.ansi_str_search.proofs.MatchLists.{matches_from}
use Rattle.ansi_scan.specs.declared.items.Kind.TheVariants.{Text}
use Rattle.grid_records_measure.specs.CutTexts.{cut_at}
use Rattle.grid_records_measure.specs.Filling.{behind_front, fitting_front, has_room, used_behind}
use Rattle.tabled_size_wrap.proofs.Worked.{cuts-worked, wide, wide-cost}
use Rattle.basinmug_columns.specs.Fitting.Fitting.{ellipsis, shortened}
use Rattle.basinmug_columns.proofs.fitting.laws.cuts_by_hand.Goals as goal

-- one column is left before the wide character, which takes two
half-room : has_room 2 1 wide ≡ false
half-room = ap (λ n. nat_le (1 + n) 2) wide-cost

half-front : (cs : List ℕ) → fitting_front 2 0 (0x61 ∷ wide ∷ cs) ≡ 0x61 ∷ []
unfolding char_width
half-front cs = ap (λ (t : Bool). 0x61 ∷ (if t then wide ∷ fitting_front 2 (used_behind 1 wide) cs else [])) half-room

half-behind : (cs : List ℕ) → behind_front 2 0 (0x61 ∷ wide ∷ cs) ≡ wide ∷ cs
unfolding char_width
half-behind cs = ap (λ (t : Bool). if t then behind_front 2 (used_behind 1 wide) cs else wide ∷ cs) half-room

half : shortened 3 (encode_utf8_all (codes "a😳b")) ≡ encode_utf8_all (codes "a�…")
unfolding chars pieces first_pieces leading_piece at_escape sequence_front opened control_from string_from escape_from matches_from first_match applied after_parameters plain_attributes start_bytes start_sequences end_bytes end_sequences digits encode char_width str_width step past_emoji alone
half =
    let cs = codes "a😳b" in
    let text = encode_utf8_all cs in
    let cut = encode_utf8_all (codes "a�") in
    let ps = record { kind = Text; bytes = text } ∷ [] in
    ap (λ (bytes : List ℕ). bytes ++ ellipsis)
    (cuts-worked 2 text cut ps cs (codes "a") (codes "😳b") refl refl refl (half-front (codes "b")) (half-behind (codes "b")) refl).is_function

pub returns : goal.returns
unfolding chars pieces first_pieces leading_piece at_escape sequence_front opened control_from string_from escape_from matches_from first_match applied after_parameters plain_attributes start_bytes start_sequences end_bytes end_sequences digits encode char_width str_width step past_emoji alone cut_at
returns c = record {
  fits = refl;
  one_too_many = refl;
  one_column = refl;
  no_columns = refl;
  nothing = refl;
  styles = refl;
  half = half;
}
