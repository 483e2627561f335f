-- What is text and what is read of it is computed.
use Rattle.std.specs.Prelude.{IsUtf8}
use Rattle.std.specs.Str.{chars, is_utf8}
use Rattle.std.proofs.Common.{◌≡◌, ◌∷◌, ◌<◌, [], ap, arith, codes, false, inl, length, refl, true, zero, suc, ℕ, List, take}
use Rattle.std.proofs.Math.Utf8.{encode}
use Rattle.std.proofs.lemmas.Str.{IsUtf8-from_is_utf8, is_utf8-from_IsUtf8}
use Rattle.ansi_scan.specs.Pieces.{at_escape, control_from, escape_from, first_pieces, leading_piece, opened, pieces, sequence_front, string_from}
use Rattle.ansi_scan.specs.Sequences.{ArePiecesOf, IsFirstBroken, IsWhole}
use Rattle.ansi_scan.specs.declared.items.Kind.TheVariants.{Broken, Text}
use Rattle.ansi_scan.proofs.Existence.{ArePiecesOf-pieces}
use Rattle.csv.proofs.OnLiterals.{csv_on_literals}
use Rattle.csv.specs.declared.parser.Action.{Action}
use Rattle.csv.specs.declared.parser.Action.TheVariants as act
use Rattle.csv.specs.declared.parser.State.{State}
use Rattle.csv.specs.declared.parser.State.TheVariants as st
use Rattle.basinmug_input.specs.Places.{EndsInQuotes, Opens}
use Rattle.basinmug_input.specs.Reading.{settings}
use Rattle.basinmug_input.proofs.laws.readable_texts_by_hand.Goals as goal

-- ---- a text whose quotes are closed

is-text : (bytes : List ℕ) → is_utf8 bytes ≡ true → IsUtf8 bytes
is-text bytes is = IsUtf8-from_is_utf8 bytes is

closed : EndsInQuotes (settings 44) (codes "a,\"b\"") → ⊥
unfolding csv_on_literals
closed ends = let clash : st.AfterQuote ≡ st.InQuoted = ends in cc clash

pub returns-clause-readable : goal.returns-clause-readable
unfolding csv_on_literals is_utf8 chars encode
returns-clause-readable c = record {
  is_text = (is-text (codes "a,\"b\"") refl, closed);
  sound = (((is-text (codes "a") refl, tt), ((is-text (codes "b") refl, tt), tt)), tt);
}

-- ---- one that is not closed

pub returns-clause-open_quote : goal.returns-clause-open_quote
unfolding csv_on_literals
returns-clause-open_quote c = λ readable. readable.is_text.1 refl

joins : ◌≡◌ {A = State × Action} (st.InQuoted, act.Copy) (st.InQuoted, act.Skip) → ⊥
joins same = let clash : act.Copy ≡ act.Skip = ap (λ (done : State × Action). done.1) same in cc clash

none-after : (at : ℕ) → 2 < at → at < 4 → Opens (settings 44) (codes "a\n\"b") at → ⊥
unfolding csv_on_literals
none-after zero past less same = absurd (omega arith)
none-after (suc zero) past less same = absurd (omega arith)
none-after (suc (suc zero)) past less same = absurd (omega arith)
none-after (suc (suc (suc zero))) past less same = joins same
none-after (suc (suc (suc (suc at)))) past less same = absurd (omega arith)

within : 2 < length (codes "a\n\"b")
within = let less : 2 < 4 = omega arith in less

pub returns-clause-quote : goal.returns-clause-quote
unfolding csv_on_literals is_utf8 chars encode
returns-clause-quote c = record {
  is_text = is-text (codes "a\n\"b") refl;
  at = 2;
  quote = record { within = within; opens = refl; last = none-after; ends = refl };
  in_line = refl;
}

-- ---- bytes that are no text

no-text : (bytes : List ℕ) → is_utf8 bytes ≡ false → IsUtf8 bytes → ⊥
no-text bytes is text = let both = is_utf8-from_IsUtf8 bytes text in cc (is, both)

pub returns-clause-no_text : goal.returns-clause-no_text
unfolding is_utf8 chars encode
returns-clause-no_text c = λ readable. no-text (0x61 ∷ 0xff ∷ []) refl readable.is_text.0

-- no more bytes of them are text
longest : (m : ℕ) → 2 < m → IsUtf8 (take m (0x61 ∷ 0x2c ∷ 0xff ∷ [])) → ⊥
unfolding is_utf8 chars encode
longest zero past text = absurd (omega (arith, past))
longest (suc zero) past text = absurd (omega (arith, past))
longest (suc (suc zero)) past text = absurd (omega (arith, past))
longest (suc (suc (suc zero))) past text = no-text (0x61 ∷ 0x2c ∷ 0xff ∷ []) refl text
longest (suc (suc (suc (suc m)))) past text = no-text (0x61 ∷ 0x2c ∷ 0xff ∷ []) refl text

short : 2 < length {A = ℕ} (0x61 ∷ 0x2c ∷ 0xff ∷ [])
short = let less : 2 < 3 = omega arith in less

pub returns-clause-not_text : goal.returns-clause-not_text
unfolding csv_on_literals is_utf8 chars encode
returns-clause-not_text c = inl (record {
  no_text = no-text (0x61 ∷ 0x2c ∷ 0xff ∷ []) refl;
  at = 2;
  valid = record { short = short; front = is-text (codes "a,") refl; longest = longest };
  in_line = refl;
  in_field = refl;
})

-- ---- an escape that begins no sequence

whole : (byte : ℕ) → ArePiecesOf (byte ∷ []) (record { kind = Text; bytes = byte ∷ [] } ∷ []) → IsWhole (byte ∷ [])
whole byte pieces_of = record { pieces = record { kind = Text; bytes = byte ∷ [] } ∷ []; of_text = pieces_of; none_broken = ((λ same. cc same), tt) }

whole-a : IsWhole (codes "a")
unfolding pieces first_pieces leading_piece at_escape sequence_front opened control_from string_from escape_from
whole-a = whole 0x61 (ArePiecesOf-pieces (codes "a"))

whole-b : IsWhole (codes "b")
unfolding pieces first_pieces leading_piece at_escape sequence_front opened control_from string_from escape_from
whole-b = whole 0x62 (ArePiecesOf-pieces (codes "b"))

broken : IsFirstBroken (codes "c\u{1b}") 1
unfolding pieces first_pieces leading_piece at_escape sequence_front opened control_from string_from escape_from
broken = record {
  before = record { kind = Text; bytes = codes "c" } ∷ [];
  broken = record { kind = Broken; bytes = codes "\u{1b}" };
  after = [];
  of_text = ArePiecesOf-pieces (codes "c\u{1b}");
  none_before = ((λ same. cc same), tt);
  is_broken = refl;
  place = refl;
}

not-in_quotes : EndsInQuotes (settings 44) (codes "a\nb,c\u{1b}") → ⊥
unfolding csv_on_literals
not-in_quotes ends = let clash : st.InField ≡ st.InQuoted = ends in cc clash

inside : 5 < length {A = ℕ} (codes "a\nb,c\u{1b}")
inside = let less : 5 < 6 = omega arith in less

pub returns-clause-escape : goal.returns-clause-escape
unfolding csv_on_literals is_utf8 chars encode
returns-clause-escape c = record {
  is_text = (is-text (codes "a\nb,c\u{1b}") refl, not-in_quotes);
  before = (codes "a" ∷ []) ∷ [];
  fields = codes "b" ∷ [];
  here = codes "c\u{1b}";
  behind = [];
  after = [];
  of_text = refl;
  sound_records = (((is-text (codes "a") refl, whole-a), tt), tt);
  sound_fields = ((is-text (codes "b") refl, whole-b), tt);
  byte = 1;
  flaw = (is-text (codes "c\u{1b}") refl, broken);
  at = 5;
  read = record { within = inside; in_record = refl; in_field = refl; as_byte = refl; joins = refl };
  in_line = refl;
  in_field = refl;
}
