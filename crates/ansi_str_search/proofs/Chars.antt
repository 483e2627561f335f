-- The characters of bytes that an ASCII character cuts.
use Rattle.std.proofs.Common.{◌≡◌, ℕ, ◌<◌, ◌==◌, Bool, true, false, List, [], ◌∷◌, ◌++◌, length, refl, ap, sym, subst, ◌∙◌, arith, eqb-true}
use Rattle.std.specs.Prelude.{chars, encode_utf8, encode_utf8_all}
use Rattle.std.specs.List.{AllByRecursion}
use Rattle.std.specs.Str.{IsUtf8, IsCharBoundary}
use Rattle.std.proofs.Math.Seq.{take-append_seam, drop-append_seam}
use Rattle.std.proofs.lemmas.Str.{encode_ascii, encodes-chars, chars-append, chars_past_char, IsUtf8-take, IsUtf8-drop, IsUtf8-past_char}
use Rattle.ansi_scan.proofs.Boundaries.{IsCharBoundary-at_ascii}

-- what holds of each element of two lists
pub both_hold : {X : Type 0} (P : X → Type 0) (xs ys : List X) → AllByRecursion P (xs ++ ys) → AllByRecursion P xs × AllByRecursion P ys
both_hold P [] ys h = (tt, h)
both_hold P (x ∷ xs) ys h = let rest = both_hold P xs ys h.1 in ((h.0, rest.0), rest.1)

pub hold_both : {X : Type 0} (P : X → Type 0) (xs ys : List X) → AllByRecursion P xs → AllByRecursion P ys → AllByRecursion P (xs ++ ys)
hold_both P [] ys first second = second
hold_both P (x ∷ xs) ys first second = (first.0, hold_both P xs ys first.1 second)

-- no number of the list is this one
abbrev pub Without : ℕ → List ℕ → Type 0
Without c xs = AllByRecursion (λ x. (x == c) ≡ false) xs

other_character : (c x : ℕ) (same : Bool) → c < 128 → (x == c) ≡ same → Without c (encode_utf8 x) → (x == c) ≡ false
other_character c x true low e h =
    let equal : x ≡ c = eqb-true x c e in
    let ascii : x < 128 = omega arith in
    (subst (Without c) (encode_ascii x ascii) h).0
other_character c x false low e h = e

Without-characters : (c : ℕ) (cs : List ℕ) → c < 128 → Without c (encode_utf8_all cs) → Without c cs
Without-characters c [] low h = tt
Without-characters c (x ∷ cs) low h =
    let parts = both_hold (λ x. (x == c) ≡ false) (encode_utf8 x) (encode_utf8_all cs) h in
    (other_character c x (x == c) low refl parts.0, Without-characters c cs low parts.1)

-- where no byte is an ASCII character, no character is
pub Without-chars : (c : ℕ) (bytes : List ℕ) → c < 128 → IsUtf8 bytes → Without c bytes → Without c (chars bytes)
Without-chars c bytes low utf8 h = Without-characters c (chars bytes) low (subst (Without c) (sym (encodes-chars bytes utf8)) h)

module _ (before : List ℕ) (c : ℕ) (behind : List ℕ) (low : c < 128) (utf8 : IsUtf8 (before ++ c ∷ behind)) where
  boundary : IsCharBoundary (before ++ c ∷ behind) (length before)
  boundary = IsCharBoundary-at_ascii (before ++ c ∷ behind) before c behind refl low

  spelled : c ∷ behind ≡ encode_utf8 c ++ behind
  spelled = ap (λ bytes. bytes ++ behind) (sym (encode_ascii c low))

  utf8_from : IsUtf8 (c ∷ behind)
  utf8_from = subst IsUtf8 (drop-append_seam before (c ∷ behind)) (IsUtf8-drop (before ++ c ∷ behind) (length before) utf8 boundary)

  pub IsUtf8-before : IsUtf8 before
  IsUtf8-before = subst IsUtf8 (take-append_seam before (c ∷ behind)) (IsUtf8-take (before ++ c ∷ behind) (length before) utf8 boundary)

  pub IsUtf8-behind : IsUtf8 behind
  IsUtf8-behind = IsUtf8-past_char (c ∷ behind) behind c utf8_from spelled

  pub chars-around : chars (before ++ c ∷ behind) ≡ chars before ++ c ∷ chars behind
  chars-around = chars-append before (c ∷ behind) IsUtf8-before ∙ ap (λ cs. chars before ++ cs) (chars_past_char (c ∷ behind) behind c utf8_from spelled)
