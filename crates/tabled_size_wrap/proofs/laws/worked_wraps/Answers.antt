-- Each step is computed, but for what a wide character costs.
use Rattle.std.specs.Fmt.{digits}
use Rattle.std.specs.Prelude.{codes, encode_utf8_all}
use Rattle.std.proofs.Common.{[], ◌∷◌, List, ℕ, refl, ap, sym, arith, true, false, ◌<◌}
use Rattle.std.proofs.Math.Utf8.{encode}
use Rattle.ucd_table.specs.Rows.{value_in}
use Rattle.unicode_width.specs.Kind.{kind as width_kind, named_kind, named_rows}
use Rattle.unicode_width.specs.Width.{alone, char_width, past_emoji, step, str_width}
use Rattle.ansi_scan.specs.declared.items.Kind.TheVariants.{Text, Sgr}
use Rattle.ansi_scan.specs.Pieces.{pieces, first_pieces, leading_piece as pieces_front, at_escape, sequence_front, opened, control_from, string_from, escape_from}
use Rattle.ansi_scan.specs.Attributes.{plain_attributes}
use Rattle.ansi_scan.specs.Rendition.{applied, after_parameters}
use Rattle.ansi_scan.specs.StartsAndEnds.{start_bytes, start_sequences, end_bytes, end_sequences}
use Rattle.ansi_scan.proofs.Existence.{ArePiecesOf-pieces}
use Rattle.ansi_str_search.specs.PartsLeft.{first_match}
use Rattle.ansi_str_search.proofs.MatchLists.{matches_from}
use Rattle.tabled_size_wrap.specs.Units.{LineUnit}
use Rattle.tabled_size_wrap.proofs.Worked.{wide, wide-unit, line-worked, wraps-worked}
use Rattle.tabled_size_wrap.proofs.Bytes.{wrapped_text-one}
use Rattle.tabled_size_wrap.proofs.laws.worked_wraps.Goals as goal

unit : List ℕ → ℕ → LineUnit
unit text cost = record { text = text; cost = cost }

pub returns-clause-words : goal.returns-clause-words
unfolding pieces first_pieces pieces_front at_escape sequence_front opened control_from string_from escape_from matches_from first_match applied after_parameters plain_attributes start_bytes start_sequences end_bytes end_sequences digits encode char_width str_width step past_emoji alone unit
returns-clause-words c =
    let some : 0 < 4 = omega arith in
    let text = codes "111 234 1" in
    let ps = record { kind = Text; bytes = text } ∷ [] in
    let lines = codes "111 " ∷ codes "234 " ∷ codes "1" ∷ [] in
    let space = unit (codes " ") 1 in
    wraps-worked 4 true text text (codes "111 \n234 \n1") ps lines some refl refl refl
    (line-worked 4 true text ps text (unit (codes "111") 3 ∷ space ∷ unit (codes "234") 3 ∷ space ∷ unit (codes "1") 1 ∷ []) lines refl refl refl refl refl) refl

pub returns-clause-marks : goal.returns-clause-marks
unfolding pieces first_pieces pieces_front at_escape sequence_front opened control_from string_from escape_from matches_from first_match applied after_parameters plain_attributes start_bytes start_sequences end_bytes end_sequences digits encode char_width str_width step past_emoji alone unit
returns-clause-marks c =
    let some : 0 < 1 = omega arith in
    let cs = codes "😳12😳3" in
    let text = encode_utf8_all cs in
    let ps = record { kind = Text; bytes = text } ∷ [] in
    let mark = encode_utf8_all (codes "�") in
    let lines = mark ∷ codes "1" ∷ codes "2" ∷ mark ∷ codes "3" ∷ [] in
    let one = unit (codes "1") 1 in
    let two = unit (codes "2") 1 in
    let three = unit (codes "3") 1 in
    wraps-worked 1 false text text (encode_utf8_all (codes "�\n1\n2\n�\n3")) ps lines some refl refl refl
    (line-worked 1 false text ps cs (unit (wide ∷ []) 2 ∷ one ∷ two ∷ unit (wide ∷ []) 2 ∷ three ∷ []) lines refl refl refl
    (ap (λ (u : LineUnit). u ∷ one ∷ two ∷ u ∷ three ∷ []) wide-unit) refl)
    refl

-- U+17D8 takes three columns
pub returns-clause-marks_in_each : goal.returns-clause-marks_in_each
unfolding pieces first_pieces pieces_front at_escape sequence_front opened control_from string_from escape_from matches_from first_match applied after_parameters plain_attributes start_bytes start_sequences end_bytes end_sequences digits encode char_width str_width step past_emoji alone unit width_kind named_kind named_rows value_in
returns-clause-marks_in_each c =
    let some : 0 < 2 = omega arith in
    let cs = codes "៘a៘b" in
    let text = encode_utf8_all cs in
    let ps = record { kind = Text; bytes = text } ∷ [] in
    let three = unit (0x17d8 ∷ []) 3 in
    let lines = encode_utf8_all (codes "��") ∷ encode_utf8_all (codes "a�") ∷ codes "b" ∷ [] in
    wraps-worked 2 false text text (encode_utf8_all (codes "��\na�\nb")) ps lines some refl refl refl
    (line-worked 2 false text ps cs (three ∷ unit (codes "a") 1 ∷ three ∷ unit (codes "b") 1 ∷ []) lines refl refl refl refl refl) refl

pub returns-clause-mark_between : goal.returns-clause-mark_between
unfolding pieces first_pieces pieces_front at_escape sequence_front opened control_from string_from escape_from matches_from first_match applied after_parameters plain_attributes start_bytes start_sequences end_bytes end_sequences digits encode char_width str_width step past_emoji alone unit
returns-clause-mark_between c =
    let some : 0 < 1 = omega arith in
    let cs = codes "a😳b" in
    let text = encode_utf8_all cs in
    let ps = record { kind = Text; bytes = text } ∷ [] in
    let lines = codes "a" ∷ encode_utf8_all (codes "�") ∷ codes "b" ∷ [] in
    let first = unit (codes "a") 1 in
    let last = unit (codes "b") 1 in
    wraps-worked 1 false text text (encode_utf8_all (codes "a\n�\nb")) ps lines some refl refl refl
    (line-worked 1 false text ps cs (first ∷ unit (wide ∷ []) 2 ∷ last ∷ []) lines refl refl refl (ap (λ (u : LineUnit). first ∷ u ∷ last ∷ []) wide-unit) refl) refl

pub returns-clause-styles : goal.returns-clause-styles
unfolding pieces first_pieces pieces_front at_escape sequence_front opened control_from string_from escape_from matches_from first_match applied after_parameters plain_attributes start_bytes start_sequences end_bytes end_sequences digits encode char_width str_width step past_emoji alone unit
returns-clause-styles c =
    let some : 0 < 7 = omega arith in
    let text = codes "\u{1b}[37mHello World\u{1b}[0m" in
    let cs = codes "Hello World" in
    let ps = record { kind = Sgr; bytes = codes "\u{1b}[37m" } ∷ record { kind = Text; bytes = cs } ∷ record { kind = Sgr; bytes = codes "\u{1b}[0m" } ∷ [] in
    let lines = codes "\u{1b}[37mHello \u{1b}[39m" ∷ codes "\u{1b}[37mWorld\u{1b}[0m" ∷ [] in
    wraps-worked 7 true text text (codes "\u{1b}[37mHello \u{1b}[39m\n\u{1b}[37mWorld\u{1b}[0m") ps lines some refl refl refl
    (line-worked 7 true text ps cs (unit (codes "Hello") 5 ∷ unit (codes " ") 1 ∷ unit (codes "World") 5 ∷ []) lines refl refl refl refl refl) refl

pub returns-clause-nothing : goal.returns-clause-nothing
returns-clause-nothing c = λ keep_words text. record {
  pieces = pieces text;
  of_text = ArePiecesOf-pieces text;
  is_wrapped = refl;
  is_function = sym (wrapped_text-one 0 keep_words text [] (pieces text) (ArePiecesOf-pieces text) refl);
}
