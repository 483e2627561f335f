-- Characters that add their columns to those of the text before them.
use Rattle.std.proofs.Common.{◌≡◌, ◌≢◌, ℕ, ◌+◌, ◌-◌, ◌/◌, ◌%◌, ◌≤◌, ◌<◌, zero, suc, not, ◌&&◌, ◌||◌, ◌==◌, cond, nat_lt, Bool, true, false, List, [], ◌∷◌, ◌++◌, length, take, get_or, refl, ap, sym, subst, ◌∙◌, arith, add-zero, take-append-drop, length-append, ⊎_elim}
use Rattle.std.specs.Prelude.{chars, encode_utf8}
use Rattle.std.specs.Char.{IsScalar}
use Rattle.std.specs.Str.{IsUtf8}
use Rattle.std.specs.Int.{is_in_range}
use Rattle.std.proofs.lemmas.Bool.{eqb-true, or_cases}
use Rattle.std.proofs.lemmas.Bool.Decides.{nat_tests}
use Rattle.std.proofs.lemmas.List.{drop_more, drop_all, get_or-append_right, length-take-le}
use Rattle.std.proofs.lemmas.List.Sums.{sum_by-cons}
use Rattle.std.proofs.lemmas.Str.{chars-nil, encode_ascii}
use Rattle.std.proofs.Math.Nat.{mod-lt}
use Rattle.std.proofs.Math.Utf8.{encode, low_scalar}
use Rattle.ucd_table.specs.Rows.{in_ranges}
use Rattle.ucd_table.proofs.Computing.{tables}
use Rattle.ucd_table.proofs.StepsLemmas.{range_rows, rises_from}
use Rattle.ucd_table.proofs.Stepped.{Stepped, of_ranges, zip_stepped}
use Rattle.ucd_table.proofs.Facts.{always, ends_by, Stepped-everywhere}
use Rattle.unicode_width.specs.declared.kind.Kind.{Kind}
use Rattle.unicode_width.specs.declared.kind.Kind.TheVariants as kinds
use Rattle.unicode_width.specs.Kind.{kind}
use Rattle.unicode_width.specs.Width.{alone, of_kind}
use Rattle.unicode_width.proofs.KindLemmas.{kind_stepped}
use Rattle.unicode_width.proofs.LastLemmas.{last_2, last_3}
use Rattle.unicode_width.proofs.Rules.{is_simple, is_simple_kind, width_or_zero, str_width-append_simple, str_width-simple}
use Rattle.ansi_str_search.proofs.TextLemmas.ShownCharacters.{chars-before_char}
use Rattle.grid_records_measure.specs.Measures.{measure, own_width}
use Rattle.grid_records_measure.specs.PlainCharacters.{is_in_ranges}
use Rattle.grid_records_measure.specs.SimpleCharacters.{high_letter_ranges, of_three, of_two, ranges_of, takes}
use Rattle.grid_records_measure.proofs.Plain.{in_ranges-any, inside-test, or-first, or-second, width-high, width-low}

-- ---- the kinds of such characters

-- a kind of so many columns that joins nothing
abbrev pub adds : ℕ → Kind → Bool
adds columns kinds.Zero = columns == 0
adds columns kinds.Narrow = columns == 1
adds columns kinds.Ambiguous = columns == 1
adds columns kinds.Wide = columns == 2
adds columns _ = false

module _ (columns : ℕ) (rises : rises_from 0 (range_rows (ranges_of columns)) ≡ true) where
  abbrev in-kind : ℕ → Bool
  in-kind c = not (in_ranges (ranges_of columns) c) || adds columns (kind c)

  abbrev in-kind-stepped : Stepped in-kind
  in-kind-stepped = zip_stepped (λ inside k. not inside || adds columns k) (in_ranges (ranges_of columns)) kind (of_ranges (ranges_of columns) rises) kind_stepped

  kind-everywhere : (always in-kind in-kind-stepped && (ends_by 0x11_0000 in-kind-stepped.steps && in-kind-stepped.default)) ≡ true
      → (c : ℕ) → takes c columns ≡ true → adds columns (kind c) ≡ true
  kind-everywhere e c h = inside-test (in_ranges (ranges_of columns) c) (adds columns (kind c)) (in_ranges-any (ranges_of columns) c ∙ h) (Stepped-everywhere in-kind in-kind-stepped e c)

pub mark-kind : (c : ℕ) → takes c 0 ≡ true → adds 0 (kind c) ≡ true
unfolding tables kind_stepped
mark-kind = kind-everywhere 0 refl refl

pub letter-kind : (c : ℕ) → takes c 1 ≡ true → adds 1 (kind c) ≡ true
unfolding tables kind_stepped
letter-kind = kind-everywhere 1 refl refl

pub ideogram-kind : (c : ℕ) → takes c 2 ≡ true → adds 2 (kind c) ≡ true
unfolding tables kind_stepped
ideogram-kind = kind-everywhere 2 refl refl

-- ---- such a character joins nothing, and takes its columns

simple-kind : (columns : ℕ) (k : Kind) → adds columns k ≡ true → is_simple_kind k ≡ true
simple-kind columns kinds.Zero h = refl
simple-kind columns kinds.Narrow h = refl
simple-kind columns kinds.Wide h = refl
simple-kind columns kinds.Ambiguous h = refl
simple-kind columns kinds.Alef h = absurd (cc h)
simple-kind columns kinds.KhmerLetter h = absurd (cc h)
simple-kind columns kinds.TifinaghConsonant h = absurd (cc h)
simple-kind columns kinds.LisuTone h = absurd (cc h)
simple-kind columns kinds.RegionalIndicator h = absurd (cc h)
simple-kind columns kinds.EmojiModifier h = absurd (cc h)
simple-kind columns kinds.Emoji h = absurd (cc h)
simple-kind columns kinds.Single h = absurd (cc h)

kind-columns : (columns c : ℕ) (k : Kind) → adds columns k ≡ true → (of_kind false c k).0 ≡ columns
kind-columns columns c kinds.Zero h = sym (eqb-true columns 0 h)
kind-columns columns c kinds.Narrow h = sym (eqb-true columns 1 h)
kind-columns columns c kinds.Wide h = sym (eqb-true columns 2 h)
kind-columns columns c kinds.Ambiguous h = sym (eqb-true columns 1 h)
kind-columns columns c kinds.Alef h = absurd (cc h)
kind-columns columns c kinds.KhmerLetter h = absurd (cc h)
kind-columns columns c kinds.TifinaghConsonant h = absurd (cc h)
kind-columns columns c kinds.LisuTone h = absurd (cc h)
kind-columns columns c kinds.RegionalIndicator h = absurd (cc h)
kind-columns columns c kinds.EmojiModifier h = absurd (cc h)
kind-columns columns c kinds.Emoji h = absurd (cc h)
kind-columns columns c kinds.Single h = absurd (cc h)

record AddsColumns (c columns : ℕ) : Type 0 where
  simple : is_simple c ≡ true
  own : own_width c ≡ columns

high-adds : (c columns : ℕ) → nat_lt 0xA0 c ≡ true → adds columns (kind c) ≡ true → AddsColumns c columns
unfolding alone
high-adds c columns high h = record {
  simple = or-second (is_in_range 0x20 0x7E c) (nat_lt 0xA0 c && is_simple_kind (kind c)) (ap (λ b. b && is_simple_kind (kind c)) high ∙ simple-kind columns (kind c) h);
  own = width-high c high ∙ kind-columns columns c (kind c) h;
}

low-adds : (c : ℕ) → is_in_range 0x20 0x7E c ≡ true → AddsColumns c 1
low-adds c low = record { simple = or-first (is_in_range 0x20 0x7E c) (nat_lt 0xA0 c && is_simple_kind (kind c)) low; own = width-low c low }

high-mark : (c : ℕ) → takes c 0 ≡ true → nat_lt 0xA0 c ≡ true
high-mark c h = grind (arith, nat_tests, h)

high-letter : (c : ℕ) → is_in_ranges high_letter_ranges c ≡ true → nat_lt 0xA0 c ≡ true
high-letter c h = grind (arith, nat_tests, h)

high-ideogram : (c : ℕ) → takes c 2 ≡ true → nat_lt 0xA0 c ≡ true
high-ideogram c h = grind (arith, nat_tests, h)

takes-adds : (c columns : ℕ) → takes c columns ≡ true → AddsColumns c columns
takes-adds c zero h = high-adds c 0 (high-mark c h) (mark-kind c h)
takes-adds c (suc zero) h =
    ⊎_elim (low-adds c) (λ high. high-adds c 1 (high-letter c high) (letter-kind c h))
    (or_cases (is_in_range 0x20 0x7E c) (is_in_ranges high_letter_ranges c) h)
takes-adds c (suc (suc zero)) h = high-adds c 2 (high-ideogram c h) (ideogram-kind c h)
takes-adds c (suc (suc (suc n))) h = absurd (cc h)

-- a text that ends with such a character
pub takes-last : (text front : List ℕ) (c columns : ℕ) → IsUtf8 front → IsScalar c → text ≡ front ++ encode_utf8 c → takes c columns ≡ true
    → measure (chars text) ≡ measure (chars front) + columns
takes-last text front c columns utf8 scalar is h =
    let own = takes-adds c columns h in
    let all : is_simple c && true ≡ true = ap (λ b. b && true) own.simple in
    ap measure (chars-before_char text front c utf8 scalar is) ∙ str_width-append_simple false (chars front) (c ∷ []) all
    ∙ ap (λ n. measure (chars front) + n) (str_width-simple false (c ∷ []) all ∙ sum_by-cons (width_or_zero false) c [] ∙ add-zero (own_width c) ∙ own.own)

-- ---- the last bytes of a text

-- a printable character
pub takes-printable : (text : List ℕ) → IsUtf8 (take (length text - 1) text) → 1 ≤ length text → is_in_range 0x20 0x7E (get_or text (length text - 1) 0) ≡ true
    → measure (chars text) ≡ measure (chars (take (length text - 1) text)) + 1
takes-printable text utf8 some printable =
    let at = length text - 1 in
    let c = get_or text at 0 in
    let small : c < 128 = grind (arith, nat_tests, printable) in
    takes-last text (take at text) c 1 utf8 (low_scalar c (omega (arith, small)))
    (sym (take-append-drop at text) ∙ ap (λ l. take at text ++ l) (drop_more text at 0 (omega arith) ∙ ap (λ l. c ∷ l) (drop_all (at + 1) text (omega arith)) ∙ sym (encode_ascii c small)))
    (or-first (is_in_range 0x20 0x7E c) (is_in_ranges high_letter_ranges c) printable)

pub takes-two : (text : List ℕ) (columns : ℕ) → IsUtf8 text → IsUtf8 (take (length text - 2) text) → 2 ≤ length text → 0xC0 ≤ get_or text (length text - 2) 0 → get_or text (length text - 2) 0 ≤ 0xDF
    → takes (of_two (get_or text (length text - 2) 0) (get_or text (length text - 1) 0)) columns ≡ true
    → measure (chars text) ≡ measure (chars (take (length text - 2) text)) + columns
takes-two text columns utf8 front long low high h =
    let last = last_2 text utf8 long low high in
    takes-last text (take (length text - 2) text) _ columns front last.scalar last.parts h

pub takes-three : (text : List ℕ) (columns : ℕ) → IsUtf8 text → IsUtf8 (take (length text - 3) text) → 3 ≤ length text → 0xE0 ≤ get_or text (length text - 3) 0 → get_or text (length text - 3) 0 ≤ 0xEF
    → takes (of_three (get_or text (length text - 3) 0) (get_or text (length text - 2) 0) (get_or text (length text - 1) 0)) columns ≡ true
    → measure (chars text) ≡ measure (chars (take (length text - 3) text)) + columns
takes-three text columns utf8 front long low high h =
    let last = last_3 text utf8 long low high in
    takes-last text (take (length text - 3) text) _ columns front last.scalar last.parts h

-- the bytes of a character after its first (RFC 3629)
abbrev pub IsContinuation : ℕ → Type 0
IsContinuation b = (0x80 ≤ b) × (b ≤ 0xBF)

next-continues : (n : ℕ) → IsContinuation (128 + n % 64)
next-continues n = let below : n % 64 < 64 = mod-lt n (omega arith) in (omega arith, omega (arith, below))

continues : (one two three : Bool) (c k : ℕ)
    → suc k < length (cond one (c ∷ []) (cond two ((192 + c / 64) ∷ (128 + c % 64) ∷ []) (cond three ((224 + c / 4096) ∷ (128 + c / 64 % 64) ∷ (128 + c % 64) ∷ []) ((240 + c / 262144) ∷ (128 + c / 4096 % 64) ∷ (128 + c / 64 % 64) ∷ (128 + c % 64) ∷ []))))
    → IsContinuation (get_or (cond one (c ∷ []) (cond two ((192 + c / 64) ∷ (128 + c % 64) ∷ []) (cond three ((224 + c / 4096) ∷ (128 + c / 64 % 64) ∷ (128 + c % 64) ∷ []) ((240 + c / 262144) ∷ (128 + c / 4096 % 64) ∷ (128 + c / 64 % 64) ∷ (128 + c % 64) ∷ [])))) (suc k) 0)
continues true two three c k h = absurd (omega (arith, h))
continues false true three c zero h = next-continues c
continues false true three c (suc k) h = absurd (omega (arith, h))
continues false false true c zero h = next-continues (c / 64)
continues false false true c (suc zero) h = next-continues c
continues false false true c (suc (suc k)) h = absurd (omega (arith, h))
continues false false false c zero h = next-continues (c / 4096)
continues false false false c (suc zero) h = next-continues (c / 64)
continues false false false c (suc (suc zero)) h = next-continues c
continues false false false c (suc (suc (suc k))) h = absurd (omega (arith, h))

encode-continues : (c k : ℕ) → suc k < length (encode_utf8 c) → IsContinuation (get_or (encode_utf8 c) (suc k) 0)
unfolding encode
encode-continues c k h = continues (nat_lt c 128) (nat_lt c 2048) (nat_lt c 65536) c k h

module _ (text : List ℕ) (utf8 : IsUtf8 text) (long : 3 ≤ length text) (low : 0xE0 ≤ get_or text (length text - 3) 0) (high : get_or text (length text - 3) 0 ≤ 0xEF) where
  -- the bytes of the last character of three
  three-continues : (k : ℕ) → k < 2 → IsContinuation (get_or text (length text - 3 + suc k) 0)
  three-continues k below =
      let last = last_3 text utf8 long low high in
      let c = of_three (get_or text (length text - 3) 0) (get_or text (length text - 2) 0) (get_or text (length text - 1) 0) in
      let front = take (length text - 3) text in
      let size : length front ≡ length text - 3 = length-take-le (length text - 3) text (omega arith) in
      let three : length (encode_utf8 c) ≡ 3 = omega (arith, ap length last.parts, length-append front (encode_utf8 c), size, long) in
      let there : get_or text (length text - 3 + suc k) 0 ≡ get_or (encode_utf8 c) (length text - 3 + suc k - (length text - 3)) 0 =
      ap (λ l. get_or l (length text - 3 + suc k) 0) last.parts ∙ get_or-append_right front (encode_utf8 c) (length text - 3) (length text - 3 + suc k) 0 size (omega arith) in
      let place : length text - 3 + suc k - (length text - 3) ≡ suc k = omega arith in
      subst IsContinuation (sym (there ∙ ap (λ n. get_or (encode_utf8 c) n 0) place)) (encode-continues c k (omega (arith, three, below)))

  pub middle-continues : IsContinuation (get_or text (length text - 2) 0)
  middle-continues = let place : length text - 3 + 1 ≡ length text - 2 = omega (arith, long) in subst (λ n. IsContinuation (get_or text n 0)) place (three-continues 0 (omega arith))

  pub last-continues : IsContinuation (get_or text (length text - 1) 0)
  last-continues = let place : length text - 3 + 2 ≡ length text - 1 = omega (arith, long) in subst (λ n. IsContinuation (get_or text n 0)) place (three-continues 1 (omega arith))

-- ---- nothing takes no column

pub measure-nothing : measure (chars []) ≡ 0
measure-nothing = ap measure chars-nil ∙ str_width-simple false [] refl

-- ---- an ideogram, by its first byte

ideogram-lead : (lead middle last : ℕ) → IsContinuation middle → IsContinuation last → 0xE4 ≤ lead → lead ≤ 0xEC → lead ≢ 0xEA → takes (of_three lead middle last) 2 ≡ true
ideogram-lead lead middle last m l low high other = grind (arith, nat_tests)

pub takes-ideogram : (text : List ℕ) → IsUtf8 text → IsUtf8 (take (length text - 3) text) → 3 ≤ length text
    → 0xE4 ≤ get_or text (length text - 3) 0 → get_or text (length text - 3) 0 ≤ 0xEC → get_or text (length text - 3) 0 ≢ 0xEA
    → measure (chars text) ≡ measure (chars (take (length text - 3) text)) + 2
takes-ideogram text utf8 front long low high other =
    let least : 0xE0 ≤ get_or text (length text - 3) 0 = omega (arith, low) in
    let most : get_or text (length text - 3) 0 ≤ 0xEF = omega (arith, high) in
    takes-three text 2 utf8 front long least most
    (ideogram-lead _ _ _ (middle-continues text utf8 long least most) (last-continues text utf8 long least most) low high other)
