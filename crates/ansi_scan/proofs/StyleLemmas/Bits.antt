-- The word of the attributes that are set or not.
use Rattle.std.proofs.Common.{◌≡◌, ℕ, zero, suc, ◌*◌, ◌^◌, ◌<◌, min, max, Bool, true, false, cond, not, ◌&&◌, ◌||◌, ◌==◌, if◌then◌else◌, List, get_or, refl, ap, sym, ◌∙◌, subst, arith}
use Rattle.std.specs.Prelude.{bit_and, bit_or}
use Rattle.std.specs.Int.{bit_at}
use Rattle.std.specs.Simd.Lanes.{mask_l}
use Rattle.std.proofs.lemmas.Bool.{ne_eqb}
use Rattle.std.proofs.lemmas.Nat.{pow_pos, and_le_l, or_lt}
use Rattle.std.proofs.lemmas.Simd.{bit_mask_l, mask_l-lt}
use Rattle.std.proofs.lemmas.Nat.Bits.{bit_at_and, bit_at_or, bit_at-lt, and_pow, same_from_bits_below}
use Rattle.ansi_scan.proofs.StyleLemmas.Ranges.{Each, each_at}
use Rattle.ansi_scan.specs.declared.style.flags.Flag.{Flag}
use Rattle.ansi_scan.specs.declared.style.flags.Flag.TheVariants.{Bold, Faint, Italic, Underline, SlowBlink, RapidBlink, Inverted, Hidden, CrossedOut, Fraktur, DoubleUnderline, ProportionalSpacing, Framed, Encircled, Overlined, IdeogramUnderline, IdeogramDoubleUnderline, IdeogramOverline, IdeogramDoubleOverline, IdeogramStress, Superscript, Subscript}
use Rattle.ansi_scan.specs.Styles.Attributes.{after_code}
use Rattle.ansi_scan.specs.Styles.FlagSet.{FlagSet}
use Rattle.ansi_scan.specs.Styles.Flags.{flags_of, only_flags, is_set, bit_place, in_places, word_of, has_bit, flags_in, bits_set_by, bits_kept_by}

-- a bit is 1 where it is tested
bit_of_test : (n : ℕ) → n < 2 → cond (n == 1) 1 0 ≡ n
bit_of_test zero small = refl
bit_of_test (suc zero) small = refl
bit_of_test (suc (suc n)) small = absurd (omega arith)

bit_of_has_bit : (word at : ℕ) → cond (has_bit word at) 1 0 ≡ bit_at word at
bit_of_has_bit word at = bit_of_test (bit_at word at) (bit_at-lt word at)

and_lt : (a b : ℕ) → a < 2 ^ 22 → bit_and a b < 2 ^ 22
and_lt a b small = omega (arith, and_le_l a b)

pub word_of-lt : (flags : FlagSet) → word_of flags < 2 ^ 22
word_of-lt flags = mask_l-lt (in_places flags)

-- the word of the attributes in a word is that word
pub word_of-flags_in : (word : ℕ) → word < 2 ^ 22 → word_of (flags_in word) ≡ word
word_of-flags_in word fits =
    let here : ℕ → Type 0 = λ at. cond (get_or (in_places (flags_in word)) at false) 1 0 ≡ bit_at word at in
    let each : Each here 0 22 = (bit_of_has_bit word 0, (bit_of_has_bit word 1, (bit_of_has_bit word 2, (bit_of_has_bit word 3, (bit_of_has_bit word 4, (bit_of_has_bit word 5, (bit_of_has_bit word 6, (bit_of_has_bit word 7, (bit_of_has_bit word 8, (bit_of_has_bit word 9, (bit_of_has_bit word 10, (bit_of_has_bit word 11, (bit_of_has_bit word 12, (bit_of_has_bit word 13, (bit_of_has_bit word 14, (bit_of_has_bit word 15, (bit_of_has_bit word 16, (bit_of_has_bit word 17, (bit_of_has_bit word 18, (bit_of_has_bit word 19, (bit_of_has_bit word 20, (bit_of_has_bit word 21, tt)))))))))))))))))))))) in
    same_from_bits_below 22 (word_of (flags_in word)) word (word_of-lt (flags_in word)) fits
    (λ at below. bit_mask_l (in_places (flags_in word)) at ∙ subst here (omega arith) (each_at here 0 22 at each below))

abbrev digit : Bool → ℕ
digit b = cond b 1 0

same_bit : (x y : Bool) → digit x ≡ digit y → x ≡ y
same_bit true true e = refl
same_bit true false e = cc
same_bit false true e = cc
same_bit false false e = refl

-- attributes with one word are the same
same_at : (a b : FlagSet) → word_of a ≡ word_of b → (at : ℕ) → get_or (in_places a) at false ≡ get_or (in_places b) at false
same_at a b e at =
    same_bit (get_or (in_places a) at false) (get_or (in_places b) at false)
    (sym (bit_mask_l (in_places a) at) ∙ (ap (λ word. bit_at word at) e ∙ bit_mask_l (in_places b) at))

pub same_flags : (a b : FlagSet) → word_of a ≡ word_of b → a ≡ b
same_flags a b e = λ i. record {
  bold = same_at a b e 21 i;
  faint = same_at a b e 20 i;
  italic = same_at a b e 19 i;
  underline = same_at a b e 18 i;
  slow_blink = same_at a b e 17 i;
  rapid_blink = same_at a b e 16 i;
  inverted = same_at a b e 15 i;
  hidden = same_at a b e 14 i;
  crossed_out = same_at a b e 13 i;
  fraktur = same_at a b e 12 i;
  double_underline = same_at a b e 11 i;
  proportional_spacing = same_at a b e 10 i;
  framed = same_at a b e 9 i;
  encircled = same_at a b e 8 i;
  overlined = same_at a b e 7 i;
  ideogram_underline = same_at a b e 6 i;
  ideogram_double_underline = same_at a b e 5 i;
  ideogram_overline = same_at a b e 4 i;
  ideogram_double_overline = same_at a b e 3 i;
  ideogram_stress = same_at a b e 2 i;
  superscript = same_at a b e 1 i;
  subscript = same_at a b e 0 i;
}

-- what is kept of what was set, and what a code sets
joined : (was kept set : Bool) → (max (min (cond was 1 0) (cond kept 1 0)) (cond set 1 0) == 1) ≡ (set || (was && kept))
joined true true true = refl
joined true true false = refl
joined true false true = refl
joined true false false = refl
joined false true true = refl
joined false true false = refl
joined false false true = refl
joined false false false = refl

has_bit-joined : (was kept set : List Bool) (at : ℕ) → has_bit (bit_or (bit_and (mask_l was) (mask_l kept)) (mask_l set)) at ≡ (get_or set at false || (get_or was at false && get_or kept at false))
has_bit-joined was kept set at =
    ap (λ n. n == 1) (bit_at_or (bit_and (mask_l was) (mask_l kept)) (mask_l set) at
    ∙ (ap (λ n. max n (bit_at (mask_l set) at)) (bit_at_and (mask_l was) (mask_l kept) at)
    ∙ λ i. max (min (bit_mask_l was at i) (bit_mask_l kept at i)) (bit_mask_l set at i)))
    ∙ joined (get_or was at false) (get_or kept at false) (get_or set at false)

after : (set cleared was : Bool) → (set || (was && not cleared)) ≡ (if set then true else (if cleared then false else was))
after true cleared was = refl
after false true true = refl
after false true false = refl
after false false true = refl
after false false false = refl

-- the word after a code, by the bits that it keeps and sets
abbrev pub word_after : FlagSet → ℕ → ℕ
word_after flags code = bit_or (bit_and (word_of flags) (mask_l (bits_kept_by code))) (mask_l (bits_set_by code))

pub word_after-lt : (flags : FlagSet) (code : ℕ) → word_after flags code < 2 ^ 22
word_after-lt flags code =
    or_lt 22 (bit_and (word_of flags) (mask_l (bits_kept_by code))) (mask_l (bits_set_by code))
    (and_lt (word_of flags) (mask_l (bits_kept_by code)) (word_of-lt flags)) (mask_l-lt (bits_set_by code))

pub flags_in-word_after : (flags : FlagSet) (code : ℕ) → flags_in (word_after flags code) ≡ flags_of (after_code (only_flags flags) code)
flags_in-word_after flags code =
    let bit = has_bit-joined (in_places flags) (bits_kept_by code) (bits_set_by code) in
    λ i. record {
      bold = (bit 21 ∙ after (code == 1) (code == 22 || code == 0) flags.bold) i;
      faint = (bit 20 ∙ after (code == 2) (code == 22 || code == 0) flags.faint) i;
      italic = (bit 19 ∙ after (code == 3) (code == 23 || code == 0) flags.italic) i;
      underline = (bit 18 ∙ after (code == 4) (code == 24 || code == 0) flags.underline) i;
      slow_blink = (bit 17 ∙ after (code == 5) (code == 25 || code == 0) flags.slow_blink) i;
      rapid_blink = (bit 16 ∙ after (code == 6) (code == 25 || code == 0) flags.rapid_blink) i;
      inverted = (bit 15 ∙ after (code == 7) (code == 27 || code == 0) flags.inverted) i;
      hidden = (bit 14 ∙ after (code == 8) (code == 28 || code == 0) flags.hidden) i;
      crossed_out = (bit 13 ∙ after (code == 9) (code == 29 || code == 0) flags.crossed_out) i;
      fraktur = (bit 12 ∙ after (code == 20) (code == 23 || code == 0) flags.fraktur) i;
      double_underline = (bit 11 ∙ after (code == 21) (code == 24 || code == 0) flags.double_underline) i;
      proportional_spacing = (bit 10 ∙ after (code == 26) (code == 50 || code == 0) flags.proportional_spacing) i;
      framed = (bit 9 ∙ after (code == 51) (code == 54 || code == 0) flags.framed) i;
      encircled = (bit 8 ∙ after (code == 52) (code == 54 || code == 0) flags.encircled) i;
      overlined = (bit 7 ∙ after (code == 53) (code == 55 || code == 0) flags.overlined) i;
      ideogram_underline = (bit 6 ∙ after (code == 60) (code == 65 || code == 0) flags.ideogram_underline) i;
      ideogram_double_underline = (bit 5 ∙ after (code == 61) (code == 65 || code == 0) flags.ideogram_double_underline) i;
      ideogram_overline = (bit 4 ∙ after (code == 62) (code == 65 || code == 0) flags.ideogram_overline) i;
      ideogram_double_overline = (bit 3 ∙ after (code == 63) (code == 65 || code == 0) flags.ideogram_double_overline) i;
      ideogram_stress = (bit 2 ∙ after (code == 64) (code == 65 || code == 0) flags.ideogram_stress) i;
      superscript = (bit 1 ∙ after (code == 73) (code == 75 || code == 0) flags.superscript) i;
      subscript = (bit 0 ∙ after (code == 74) (code == 75 || code == 0) flags.subscript) i;
    }

-- the test of one bit
tested : (b : Bool) (p : ℕ) → 0 < p → not (cond b 1 0 * p == 0) ≡ b
tested true p positive = ap not (ne_eqb (1 * p) 0 (λ e. omega arith))
tested false p positive = let none : 0 * p ≡ 0 = omega arith in ap (λ n. not (n == 0)) none

is_set-bit_place : (flag : Flag) (flags : FlagSet) → get_or (in_places flags) (bit_place flag) false ≡ is_set flag flags
is_set-bit_place Bold flags = refl
is_set-bit_place Faint flags = refl
is_set-bit_place Italic flags = refl
is_set-bit_place Underline flags = refl
is_set-bit_place SlowBlink flags = refl
is_set-bit_place RapidBlink flags = refl
is_set-bit_place Inverted flags = refl
is_set-bit_place Hidden flags = refl
is_set-bit_place CrossedOut flags = refl
is_set-bit_place Fraktur flags = refl
is_set-bit_place DoubleUnderline flags = refl
is_set-bit_place ProportionalSpacing flags = refl
is_set-bit_place Framed flags = refl
is_set-bit_place Encircled flags = refl
is_set-bit_place Overlined flags = refl
is_set-bit_place IdeogramUnderline flags = refl
is_set-bit_place IdeogramDoubleUnderline flags = refl
is_set-bit_place IdeogramOverline flags = refl
is_set-bit_place IdeogramDoubleOverline flags = refl
is_set-bit_place IdeogramStress flags = refl
is_set-bit_place Superscript flags = refl
is_set-bit_place Subscript flags = refl

pub is_set-tested : (flag : Flag) (flags : FlagSet) → not (bit_and (word_of flags) (2 ^ bit_place flag) == 0) ≡ is_set flag flags
is_set-tested flag flags =
    ap (λ n. not (n == 0)) (and_pow (word_of flags) (bit_place flag)
    ∙ ap (λ n. n * 2 ^ bit_place flag) (bit_mask_l (in_places flags) (bit_place flag)))
    ∙ (tested (get_or (in_places flags) (bit_place flag) false) (2 ^ bit_place flag) (pow_pos (bit_place flag))
    ∙ is_set-bit_place flag flags)
