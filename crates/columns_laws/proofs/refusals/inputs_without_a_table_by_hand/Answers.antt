-- The pieces of each text are computed; bytes that are no text fail the test of one.
use Rattle.std.proofs.Common.{◌≡◌, [], ◌∷◌, false, true, refl}
use Rattle.std.specs.Prelude.{IsUtf8, codes}
use Rattle.std.specs.Str.{chars, is_utf8}
use Rattle.std.specs.Str.Lossy.{utf8_valid_len}
use Rattle.std.proofs.Math.Utf8.{encode}
use Rattle.std.proofs.lemmas.Str.{is_utf8-from_IsUtf8}
use Rattle.ansi_scan.specs.declared.items.Kind.TheVariants.{Broken, Sgr, Text}
use Rattle.ansi_scan.specs.Pieces.{pieces, first_pieces, leading_piece, at_escape, sequence_front, opened, control_from, string_from, escape_from}
use Rattle.ansi_scan.proofs.Existence.{ArePiecesOf-pieces}
use Rattle.columns_laws.proofs.refusals.inputs_without_a_table_by_hand.Goals as goal

no-text : IsUtf8 (0x61 ∷ 0xff ∷ []) → ⊥
unfolding is_utf8 chars encode
no-text text = let failed : false ≡ true = is_utf8-from_IsUtf8 (0x61 ∷ 0xff ∷ []) text in cc failed

no-text_first : IsUtf8 (0x1b ∷ 0xff ∷ []) → ⊥
unfolding is_utf8 chars encode
no-text_first text = let failed : false ≡ true = is_utf8-from_IsUtf8 (0x1b ∷ 0xff ∷ []) text in cc failed

pub returns-clause-no_text : goal.returns-clause-no_text
unfolding utf8_valid_len is_utf8 chars encode
returns-clause-no_text c = λ wanted. (no-text, refl)

pub returns-clause-no_text_first : goal.returns-clause-no_text_first
unfolding utf8_valid_len is_utf8 chars encode
returns-clause-no_text_first c = λ wanted. (no-text_first, refl)

pub returns-clause-lone : goal.returns-clause-lone
unfolding pieces first_pieces leading_piece at_escape sequence_front opened control_from string_from escape_from chars encode
returns-clause-lone c = λ wanted. (
  (codes "\u{1b}", (refl, refl)),
  record {
    before = [];
    broken = record { kind = Broken; bytes = codes "\u{1b}" };
    after = [];
    of_text = ArePiecesOf-pieces (codes "\u{1b}");
    none_before = tt;
    is_broken = refl;
    place = refl;
  },
)

pub returns-clause-behind_a_sequence : goal.returns-clause-behind_a_sequence
unfolding pieces first_pieces leading_piece at_escape sequence_front opened control_from string_from escape_from chars encode
returns-clause-behind_a_sequence c = λ wanted. (
  (codes "\u{1b}[31m\u{1b}[1", (refl, refl)),
  record {
    before = record { kind = Sgr; bytes = codes "\u{1b}[31m" } ∷ [];
    broken = record { kind = Broken; bytes = codes "\u{1b}" };
    after = record { kind = Text; bytes = codes "[1" } ∷ [];
    of_text = ArePiecesOf-pieces (codes "\u{1b}[31m\u{1b}[1");
    none_before = ((λ same. cc same), tt);
    is_broken = refl;
    place = refl;
  },
)

pub returns-clause-string : goal.returns-clause-string
unfolding pieces first_pieces leading_piece at_escape sequence_front opened control_from string_from escape_from chars encode
returns-clause-string c = λ wanted. (
  (codes "\u{1b}]0;a", (refl, refl)),
  record {
    before = [];
    broken = record { kind = Broken; bytes = codes "\u{1b}" };
    after = record { kind = Text; bytes = codes "]0;a" } ∷ [];
    of_text = ArePiecesOf-pieces (codes "\u{1b}]0;a");
    none_before = tt;
    is_broken = refl;
    place = refl;
  },
)
