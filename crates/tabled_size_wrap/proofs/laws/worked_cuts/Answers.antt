-- Each step is computed, but for what a wide character costs.
use Rattle.std.specs.Fmt.{digits}
use Rattle.std.specs.Prelude.{codes, encode_utf8_all}
use Rattle.std.proofs.Common.{replicate, ◌-◌, [], ◌∷◌, ◌++◌, refl, ap}
use Rattle.std.proofs.Math.Utf8.{encode}
use Rattle.ucd_table.specs.Rows.{value_in}
use Rattle.unicode_width.specs.Kind.{kind as width_kind, named_kind, named_rows}
use Rattle.unicode_width.specs.Width.{alone, char_width, past_emoji, step, str_width}
use Rattle.ansi_scan.specs.declared.items.Kind.TheVariants.{Text, Sgr}
use Rattle.ansi_scan.specs.Pieces.{pieces, first_pieces, leading_piece as pieces_front, at_escape, sequence_front, opened, control_from, string_from, escape_from}
use Rattle.ansi_scan.specs.Attributes.{plain_attributes}
use Rattle.ansi_scan.specs.Rendition.{applied, after_parameters}
use Rattle.ansi_scan.specs.StartsAndEnds.{start_bytes, start_sequences, end_bytes, end_sequences}
use Rattle.ansi_str_search.specs.PartsLeft.{first_match}
use Rattle.ansi_str_search.proofs.MatchLists.{matches_from}
use Rattle.ansi_str.specs.Cuts.{cut_part}
use Rattle.grid_records_measure.specs.Cutting.{replacement}
use Rattle.tabled_size_wrap.proofs.Worked.{cuts-worked, wide-behind, wide-columns, wide-fitting_front}
use Rattle.tabled_size_wrap.proofs.laws.worked_cuts.Goals as goal

pub returns-clause-all_sequences : goal.returns-clause-all_sequences
unfolding pieces first_pieces pieces_front at_escape sequence_front opened control_from string_from escape_from matches_from first_match applied after_parameters plain_attributes start_bytes start_sequences end_bytes end_sequences digits encode char_width str_width step past_emoji alone
returns-clause-all_sequences c =
    let text = codes "\u{1b}[31;100m123456\u{1b}[39m\u{1b}[49m" in
    let cs = codes "123456" in
    let ps = record { kind = Sgr; bytes = codes "\u{1b}[31;100m" } ∷ record { kind = Text; bytes = cs } ∷ record { kind = Sgr; bytes = codes "\u{1b}[39m" } ∷ record { kind = Sgr; bytes = codes "\u{1b}[49m" } ∷ [] in
    cuts-worked 0 text (codes "\u{1b}[31;100m\u{1b}[39m\u{1b}[49m") ps cs (codes "") (codes "123456") refl refl refl refl refl refl

pub returns-clause-styles : goal.returns-clause-styles
unfolding pieces first_pieces pieces_front at_escape sequence_front opened control_from string_from escape_from matches_from first_match applied after_parameters plain_attributes start_bytes start_sequences end_bytes end_sequences digits encode char_width str_width step past_emoji alone
returns-clause-styles c =
    let text = codes "\u{1b}[31;100m123456\u{1b}[39m\u{1b}[49m" in
    let cs = codes "123456" in
    let ps = record { kind = Sgr; bytes = codes "\u{1b}[31;100m" } ∷ record { kind = Text; bytes = cs } ∷ record { kind = Sgr; bytes = codes "\u{1b}[39m" } ∷ record { kind = Sgr; bytes = codes "\u{1b}[49m" } ∷ [] in
    cuts-worked 3 text (codes "\u{1b}[31;100m123\u{1b}[39m\u{1b}[49m") ps cs (codes "123") (codes "456") refl refl refl refl refl refl

pub returns-clause-whole : goal.returns-clause-whole
unfolding pieces first_pieces pieces_front at_escape sequence_front opened control_from string_from escape_from matches_from first_match applied after_parameters plain_attributes start_bytes start_sequences end_bytes end_sequences digits encode char_width str_width step past_emoji alone
returns-clause-whole c =
    let text = codes "\u{1b}[31;100m123456\u{1b}[39m\u{1b}[49m" in
    let cs = codes "123456" in
    let ps = record { kind = Sgr; bytes = codes "\u{1b}[31;100m" } ∷ record { kind = Text; bytes = cs } ∷ record { kind = Sgr; bytes = codes "\u{1b}[39m" } ∷ record { kind = Sgr; bytes = codes "\u{1b}[49m" } ∷ [] in
    cuts-worked 10 text (codes "\u{1b}[31;100m123456\u{1b}[39m\u{1b}[49m") ps cs (codes "123456") (codes "") refl refl refl refl refl refl

pub returns-clause-first_line : goal.returns-clause-first_line
unfolding pieces first_pieces pieces_front at_escape sequence_front opened control_from string_from escape_from matches_from first_match applied after_parameters plain_attributes start_bytes start_sequences end_bytes end_sequences digits encode char_width str_width step past_emoji alone
returns-clause-first_line c =
    let text = codes "123\n456789" in
    let ps = record { kind = Text; bytes = text } ∷ [] in
    cuts-worked 3 text (codes "123") ps text (codes "123") (codes "\n456789") refl refl refl refl refl refl

pub returns-clause-second_line : goal.returns-clause-second_line
unfolding pieces first_pieces pieces_front at_escape sequence_front opened control_from string_from escape_from matches_from first_match applied after_parameters plain_attributes start_bytes start_sequences end_bytes end_sequences digits encode char_width str_width step past_emoji alone
returns-clause-second_line c =
    let text = codes "123\n456789" in
    let ps = record { kind = Text; bytes = text } ∷ [] in
    cuts-worked 4 text (codes "123\n4567") ps text (codes "123\n4567") (codes "89") refl refl refl refl refl refl

-- U+17D8 takes three columns
pub returns-clause-marks : goal.returns-clause-marks
unfolding pieces first_pieces pieces_front at_escape sequence_front opened control_from string_from escape_from matches_from first_match applied after_parameters plain_attributes start_bytes start_sequences end_bytes end_sequences digits encode char_width str_width step past_emoji alone width_kind named_kind named_rows value_in
returns-clause-marks c =
    let cs = codes "a៘b" in
    let text = encode_utf8_all cs in
    let ps = record { kind = Text; bytes = text } ∷ [] in
    cuts-worked 3 text (encode_utf8_all (codes "a��")) ps cs (codes "a") (codes "៘b") refl refl refl refl refl refl

pub returns-clause-mark : goal.returns-clause-mark
unfolding pieces first_pieces pieces_front at_escape sequence_front opened control_from string_from escape_from matches_from first_match applied after_parameters plain_attributes start_bytes start_sequences end_bytes end_sequences digits encode char_width str_width step past_emoji alone
returns-clause-mark c =
    let cs = codes "😳😳😳😳😳" in
    let text = encode_utf8_all cs in
    let ps = record { kind = Text; bytes = text } ∷ [] in
    let others = codes "😳😳😳😳" in
    cuts-worked 3 text (encode_utf8_all (codes "😳�")) ps cs (codes "😳") others refl refl refl (wide-fitting_front (codes "😳😳😳")) (wide-behind (codes "😳😳😳"))
    (ap (λ n. cut_part 0 4 ps ++ encode_utf8_all (replicate (3 - n) replacement)) wide-columns)
