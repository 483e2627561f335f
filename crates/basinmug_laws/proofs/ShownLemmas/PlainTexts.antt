-- Texts without sequences: no style is open in them.
use Rattle.std.proofs.Common.{◌≡◌, ◌==◌, ◌&&◌, ◌||◌, ◌+◌, ◌<◌, ◌/◌, ◌%◌, nat_lt, not, ℕ, zero, suc, Bool, true, false, cond, List, [], ◌∷◌, map, refl, ap, sym, subst, ◌∙◌, arith, append-nil}
use Rattle.std.specs.Prelude.{chars, decimal}
use Rattle.std.specs.Fmt.{digit_glyph, digits, digits_onto}
use Rattle.std.specs.List.{AllByRecursion, list_all}
use Rattle.std.proofs.lemmas.Bool.{and_parts}
use Rattle.std.proofs.lemmas.Bool.Decides.{nat_tests}
use Rattle.std.proofs.lemmas.List.Elements.{All-from_recursion}
use Rattle.std.proofs.lemmas.Str.{IsUtf8-from_ascii, chars-nil}
use Rattle.std.proofs.lemmas.Str.Ascii.{IsAscii-from_all}
use Rattle.ansi_scan.specs.Pieces.{pieces}
use Rattle.ansi_scan.specs.Sequences.{escape, is_not_escape}
use Rattle.ansi_scan.specs.declared.items.Kind.TheVariants.{Text}
use Rattle.ansi_scan.proofs.Uniqueness.{pieces-ArePiecesOf}
use Rattle.ansi_str_search.specs.Text.StyledText.{IsClosed, has_escape, strip, styled}
use Rattle.papergrid_picture.specs.Shown.{IsTextWithoutEscape, in_plain}
use Rattle.papergrid_picture.proofs.Shown.{ShowsHere, ShowsHere-nothing, pieces-nothing}
use Rattle.papergrid_picture.proofs.Stripped.{Leaves}
use Rattle.tables_laws.proofs.ShownLemmas.LineEnds.{FeedIsPlain, PlainHere, plain-shown}

-- ---- texts without ESC

not-escapes : (bytes : List ℕ) → has_escape bytes ≡ false → list_all is_not_escape bytes ≡ true
not-escapes [] gone = refl
not-escapes (b ∷ bs) gone = by (b == escape) refl gone (not-escapes bs)
  where
    by : (one : Bool) → (b == escape) ≡ one → (one || has_escape bs) ≡ false → (has_escape bs ≡ false → list_all is_not_escape bs ≡ true) → list_all is_not_escape (b ∷ bs) ≡ true
    by true e h others = absurd (cc h)
    by false e h others = ap (λ t. not t && list_all is_not_escape bs) e ∙ others h

all-plain : (cs : List ℕ) → AllByRecursion FeedIsPlain (map in_plain cs)
all-plain [] = tt
all-plain (c ∷ cs) = ((λ is. refl), all-plain cs)

-- it is one piece, and shows its characters in the plain style
alone-piece : (b : ℕ) (bs : List ℕ) → IsTextWithoutEscape (b ∷ bs) → pieces (b ∷ bs) ≡ record { kind = Text; bytes = b ∷ bs } ∷ []
alone-piece b bs is =
    let text = b ∷ bs in
    pieces-ArePiecesOf text (record { kind = Text; bytes = text } ∷ []) (record { joins = append-nil text; stand = (record { some = omega arith; plain = not-escapes text is.no_escape; ends = tt }, tt) })

pub text-here : (text : List ℕ) → IsTextWithoutEscape text → ShowsHere text (map in_plain (chars text))
text-here [] is = subst (λ (cs : List ℕ). ShowsHere [] (map in_plain cs)) (sym chars-nil) ShowsHere-nothing
text-here (b ∷ bs) is =
    let text = b ∷ bs in
    let one = alone-piece b bs is in
    record {
      utf8 = is.utf8;
      closed = subst IsClosed (sym one) (record { none_broken = ((λ same. cc same), tt); plain = refl });
      shown = ap styled one ∙ append-nil (map in_plain (chars text));
    }

-- without sequences it is itself
pub text-leaves : (text : List ℕ) → IsTextWithoutEscape text → Leaves text text
text-leaves [] is = record { whole = ShowsHere-nothing.closed.none_broken; left = ap strip pieces-nothing }
text-leaves (b ∷ bs) is = record { whole = (text-here (b ∷ bs) is).closed.none_broken; left = ap strip (alone-piece b bs is) ∙ append-nil (b ∷ bs) }

pub plain-text : (text : List ℕ) → IsTextWithoutEscape text → PlainHere text
plain-text text is = plain-shown text (map in_plain (chars text)) (text-here text is) (all-plain (chars text))

-- ---- texts of ASCII

abbrev pub is_shown_byte : ℕ → Bool
is_shown_byte b = nat_lt b 128 && not (b == escape)

abbrev pub AreShownBytes : List ℕ → Type 0
AreShownBytes bytes = list_all is_shown_byte bytes ≡ true

low-bytes : (bytes : List ℕ) → AreShownBytes bytes → AllByRecursion (λ b. b < 128) bytes
low-bytes [] all = tt
low-bytes (b ∷ bs) all =
    let parts = and_parts (is_shown_byte b) (list_all is_shown_byte bs) all in
    let low : nat_lt b 128 ≡ true = (and_parts (nat_lt b 128) (not (b == escape)) parts.0).0 in
    (grind (arith, nat_tests, low), low-bytes bs parts.1)

no-escapes : (bytes : List ℕ) → AreShownBytes bytes → has_escape bytes ≡ false
no-escapes [] all = refl
no-escapes (b ∷ bs) all =
    let parts = and_parts (is_shown_byte b) (list_all is_shown_byte bs) all in
    let other : not (b == escape) ≡ true = (and_parts (nat_lt b 128) (not (b == escape)) parts.0).1 in
    ap (λ t. t || has_escape bs) (turned (b == escape) other) ∙ no-escapes bs parts.1
  where
    turned : (t : Bool) → not t ≡ true → t ≡ false
    turned true is = absurd (cc is)
    turned false is = refl

pub ascii-text : (bytes : List ℕ) → AreShownBytes bytes → IsTextWithoutEscape bytes
ascii-text bytes all = record { utf8 = IsUtf8-from_ascii bytes (IsAscii-from_all bytes (All-from_recursion (λ b. b < 128) bytes (low-bytes bytes all))); no_escape = no-escapes bytes all }

-- ---- numbers

-- what holds of each digit holds of the digits of a number
module _ (test : ℕ → Bool) (digit : (d : ℕ) → d < 10 → test (48 + d) ≡ true) where
  glyph-all : (d : ℕ) → d < 10 → test (digit_glyph false d) ≡ true
  glyph-all d less =
      let low : nat_lt d 10 ≡ true = grind (arith, nat_tests) in
      ap (λ t. test (cond t (48 + d) (87 + d))) low ∙ digit d less

  digits-all : (k n : ℕ) (acc : List ℕ) → list_all test acc ≡ true → list_all test (digits_onto k 10 false n acc) ≡ true
  digits-all zero n acc all = all
  digits-all (suc k) n acc all =
      let glyph = digit_glyph false (n % 10) in
      let more : list_all test (glyph ∷ acc) ≡ true = ap (λ t. t && list_all test acc) (glyph-all (n % 10) (omega arith)) ∙ all in
      by (n / 10 == 0) more (digits-all k (n / 10) (glyph ∷ acc) more)
    where
      by : (b : Bool) → list_all test (digit_glyph false (n % 10) ∷ acc) ≡ true → list_all test (digits_onto k 10 false (n / 10) (digit_glyph false (n % 10) ∷ acc)) ≡ true
          → list_all test (cond b (digit_glyph false (n % 10) ∷ acc) (digits_onto k 10 false (n / 10) (digit_glyph false (n % 10) ∷ acc))) ≡ true
      by true here others = here
      by false here others = others

  pub decimal-all : (n : ℕ) → list_all test (decimal n) ≡ true
  unfolding digits
  decimal-all n = digits-all 64 n [] refl
