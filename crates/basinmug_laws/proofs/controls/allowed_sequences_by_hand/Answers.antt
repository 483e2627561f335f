use Rattle.std.proofs.Common.{◌≡◌, ℕ, true, false, inl, inr, List, [], ◌∷◌, codes, refl}
use Rattle.std.proofs.Math.Utf8.{encode}
use Rattle.ansi_scan.specs.Pieces.{pieces, first_pieces, leading_piece, at_escape, sequence_front, opened, control_from, string_from, escape_from}
use Rattle.basinmug_input.specs.Cleaning.{HasOnly}
use Rattle.basinmug_input.specs.Renditions.{is_kept_rendition}
use Rattle.basinmug_laws.specs.Controls.Written.{is_put_in}
use Rattle.basinmug_laws.proofs.SequencesLemmas.Allowed.{HasAllowed}
use Rattle.basinmug_laws.proofs.SequencesLemmas.Styles.{kept-read}
use Rattle.basinmug_laws.proofs.SequencesLemmas.Texts.{only-allowed}
use Rattle.basinmug_laws.proofs.controls.allowed_sequences_by_hand.Goals as goal

kept-pieces : (text : List ℕ) → HasOnly is_kept_rendition text → HasAllowed (λ bytes. is_kept_rendition bytes ≡ true) text
kept-pieces text only = only-allowed is_kept_rendition kept-read text only

colored : HasOnly is_kept_rendition (codes "\u{1b}[31ma\u{1b}[39m\n")
unfolding encode
colored = record {
  parts = codes "\u{1b}[31m" ∷ codes "a" ∷ codes "\u{1b}[39m" ∷ codes "\n" ∷ [];
  joins = refl;
  each = (inl refl, (inr (record { characters = codes "a"; spelled = refl; each = refl }), (inl refl, (inr (record { characters = codes "\n"; spelled = refl; each = refl }), tt))));
}

title : HasAllowed (λ bytes. is_kept_rendition bytes ≡ true) (codes "\u{1b}]0;a\u{7}") → ⊥
unfolding pieces first_pieces leading_piece at_escape sequence_front opened control_from string_from escape_from
title all = let clash : false ≡ true = all.0.1 refl in cc clash

cleared : HasAllowed (λ bytes. is_kept_rendition bytes ≡ true) (codes "a\u{1b}[2J") → ⊥
unfolding pieces first_pieces leading_piece at_escape sequence_front opened control_from string_from escape_from
cleared all = let clash : false ≡ true = all.1.0.1 refl in cc clash

concealed : HasAllowed (λ bytes. is_kept_rendition bytes ≡ true) (codes "\u{1b}[8ma\u{1b}[0m") → ⊥
unfolding pieces first_pieces leading_piece at_escape sequence_front opened control_from string_from escape_from
concealed all = let clash : false ≡ true = all.0.1 refl in cc clash

uncolored : HasAllowed (λ bytes. is_put_in [] bytes ≡ true) (codes "\u{1b}[31ma") → ⊥
unfolding pieces first_pieces leading_piece at_escape sequence_front opened control_from string_from escape_from
uncolored all = let clash : false ≡ true = all.0.1 refl in cc clash

pub returns : goal.returns
returns c = record {
  red = refl;
  red_ends = refl;
  green = refl;
  colored = colored;
  title = λ only. title (kept-pieces (codes "\u{1b}]0;a\u{7}") only);
  cleared = λ only. cleared (kept-pieces (codes "a\u{1b}[2J") only);
  concealed = λ only. concealed (kept-pieces (codes "\u{1b}[8ma\u{1b}[0m") only);
  uncolored = λ only. uncolored (only-allowed (is_put_in []) (λ bytes none. cc none) (codes "\u{1b}[31ma") only);
}
