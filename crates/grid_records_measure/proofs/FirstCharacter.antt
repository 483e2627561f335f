-- The character of three bytes at the beginning of a text (RFC 3629).
use Rattle.std.proofs.Common.{◌≡◌, ℕ, ◌+◌, ◌/◌, ◌%◌, ◌≤◌, ◌<◌, cond, nat_lt, Bool, true, false, List, [], ◌∷◌, ◌++◌, length, drop, get_or, refl, ap, sym, subst, ◌∙◌, arith}
use Rattle.std.specs.Prelude.{chars}
use Rattle.std.specs.Str.{IsCharBoundary, IsUtf8}
use Rattle.std.proofs.lemmas.Bool.Decides.{nat_tests}
use Rattle.std.proofs.Math.Seq.{drop-append_seam}
use Rattle.std.proofs.lemmas.Str.{chars_past_char, encodes-chars, IsUtf8-past_char, IsCharBoundary-at_seam}
use Rattle.std.proofs.Math.Utf8.{encode, encodes}

-- the bytes of a character, by what is known of its number
abbrev bytes_by : Bool → Bool → Bool → ℕ → List ℕ
bytes_by one two three c = cond one (c ∷ []) (cond two ((192 + c / 64) ∷ (128 + c % 64) ∷ []) (cond three ((224 + c / 4096) ∷ (128 + c / 64 % 64) ∷ (128 + c % 64) ∷ []) ((240 + c / 262144) ∷ (128 + c / 4096 % 64) ∷ (128 + c / 64 % 64) ∷ (128 + c % 64) ∷ [])))

by-bytes : (one two three : Bool) (c : ℕ) (tail : List ℕ) → nat_lt c 128 ≡ one → nat_lt c 2048 ≡ two → 0xE0 ≤ get_or (bytes_by one two three c ++ tail) 0 0 → get_or (bytes_by one two three c ++ tail) 0 0 ≤ 0xEF
    → (length (bytes_by one two three c) ≡ 3) × (get_or (bytes_by one two three c ++ tail) 0 0 ≡ 224 + c / 4096)
by-bytes true two three c tail p q low high = absurd (grind (arith, nat_tests, p, low))
by-bytes false true three c tail p q low high = absurd (grind (arith, nat_tests, q, low))
by-bytes false false true c tail p q low high = (refl, refl)
by-bytes false false false c tail p q low high = absurd (omega (arith, high))

-- a first byte of three says how many there are, and the character's high bits
first-of-three : (c : ℕ) (tail : List ℕ) → 0xE0 ≤ get_or (encode c ++ tail) 0 0 → get_or (encode c ++ tail) 0 0 ≤ 0xEF
    → (length (encode c) ≡ 3) × (get_or (encode c ++ tail) 0 0 ≡ 224 + c / 4096)
unfolding encode
first-of-three c tail low high = by-bytes (nat_lt c 128) (nat_lt c 2048) (nat_lt c 65536) c tail refl refl low high

-- a character, with its rest
record HasFirst (text : List ℕ) : Type 0 where
  c : ℕ
  rest : List ℕ
  parts : text ≡ encode c ++ rest

has-first : (text : List ℕ) → IsUtf8 text → 0 < length text → HasFirst text
has-first text utf8 some = of-chars (chars text) (encodes-chars text utf8)
  where
    of-chars : (cs : List ℕ) → encodes cs ≡ text → HasFirst text
    of-chars [] e = absurd (let none = ap length e in omega (arith, none, some))
    of-chars (c ∷ cs) e = record { c = c; rest = encodes cs; parts = sym e }

-- the first three bytes are a character with these high bits
pub record IsFirstOfThree (text : List ℕ) : Type 0 where
  pub c : ℕ
  pub high : get_or text 0 0 ≡ 224 + c / 4096
  pub characters : chars text ≡ c ∷ chars (drop 3 text)
  pub boundary : IsCharBoundary text 3

pub first-three : (text : List ℕ) → IsUtf8 text → 0 < length text → 0xE0 ≤ get_or text 0 0 → get_or text 0 0 ≤ 0xEF → IsFirstOfThree text
first-three text utf8 some low high =
    let first = has-first text utf8 some in
    let byte : get_or text 0 0 ≡ get_or (encode first.c ++ first.rest) 0 0 = ap (λ l. get_or l 0 0) first.parts in
    let known = first-of-three first.c first.rest (omega (arith, low, byte)) (omega (arith, high, byte)) in
    let behind : drop 3 text ≡ first.rest = ap (λ l. drop 3 l) first.parts ∙ ap (λ n. drop n (encode first.c ++ first.rest)) (sym known.0) ∙ drop-append_seam (encode first.c) first.rest in
    record {
      c = first.c;
      high = byte ∙ known.1;
      characters = chars_past_char text first.rest first.c utf8 first.parts ∙ ap (λ l. first.c ∷ chars l) (sym behind);
      boundary = subst (λ n. IsCharBoundary text n) known.0 (IsCharBoundary-at_seam text (encode first.c) first.rest first.parts (IsUtf8-past_char text first.rest first.c utf8 first.parts));
    }
