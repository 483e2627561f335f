-- The character that the first two or three bytes of a text encode (RFC 3629).
use Rattle.std.proofs.Common.{◌≡◌, ◌⊎◌, inl, inr, ℕ, ◌+◌, ◌/◌, ◌%◌, ◌≤◌, ◌<◌, cond, nat_lt, Bool, true, false, List, [], ◌∷◌, ◌++◌, length, drop, get_or, refl, ap, sym, subst, ◌∙◌, arith}
use Rattle.std.specs.Str.{IsCharBoundary, IsUtf8}
use Rattle.std.proofs.lemmas.Bool.Decides.{nat_tests}
use Rattle.std.proofs.Math.Seq.{drop-append_seam}
use Rattle.std.proofs.lemmas.List.{drop_more}
use Rattle.std.proofs.lemmas.Str.{encode_ascii, encodes-chars, IsUtf8-past_char, IsCharBoundary-at_seam}
use Rattle.std.proofs.Math.Utf8.{encode, encodes}
use Rattle.grid_records_measure.specs.SimpleCharacters.{of_three, of_two}

-- the bytes of a character, by what is known of its number
abbrev bytes_by : Bool → Bool → Bool → ℕ → List ℕ
bytes_by one two three c = cond one (c ∷ []) (cond two ((192 + c / 64) ∷ (128 + c % 64) ∷ []) (cond three ((224 + c / 4096) ∷ (128 + c / 64 % 64) ∷ (128 + c % 64) ∷ []) ((240 + c / 262144) ∷ (128 + c / 4096 % 64) ∷ (128 + c / 64 % 64) ∷ (128 + c % 64) ∷ [])))

-- the bytes of a character after its first
abbrev pub IsContinuation : ℕ → Type 0
IsContinuation b = (0x80 ≤ b) × (b ≤ 0xBF)

two-by : (one two three : Bool) (c : ℕ) (tail : List ℕ) → nat_lt c 128 ≡ one → nat_lt c 2048 ≡ two → 0xC0 ≤ get_or (bytes_by one two three c ++ tail) 0 0 → get_or (bytes_by one two three c ++ tail) 0 0 ≤ 0xDF
    → (length (bytes_by one two three c) ≡ 2) × (c ≡ of_two (get_or (bytes_by one two three c ++ tail) 0 0) (get_or (bytes_by one two three c ++ tail) 1 0)) × IsContinuation (get_or (bytes_by one two three c ++ tail) 1 0)
two-by true two three c tail p q low high = absurd (grind (arith, nat_tests, p, low))
two-by false true three c tail p q low high = (refl, omega arith, (omega arith, omega arith))
two-by false false true c tail p q low high = absurd (omega (arith, high))
two-by false false false c tail p q low high = absurd (omega (arith, high))

three-by : (one two three : Bool) (c : ℕ) (tail : List ℕ) → nat_lt c 128 ≡ one → nat_lt c 2048 ≡ two → 0xE0 ≤ get_or (bytes_by one two three c ++ tail) 0 0 → get_or (bytes_by one two three c ++ tail) 0 0 ≤ 0xEF
    → (length (bytes_by one two three c) ≡ 3)
    × (c ≡ of_three (get_or (bytes_by one two three c ++ tail) 0 0) (get_or (bytes_by one two three c ++ tail) 1 0) (get_or (bytes_by one two three c ++ tail) 2 0))
    × IsContinuation (get_or (bytes_by one two three c ++ tail) 1 0) × IsContinuation (get_or (bytes_by one two three c ++ tail) 2 0)
three-by true two three c tail p q low high = absurd (grind (arith, nat_tests, p, low))
three-by false true three c tail p q low high = absurd (grind (arith, nat_tests, q, low))
three-by false false true c tail p q low high = (refl, omega arith, (omega arith, omega arith), (omega arith, omega arith))
three-by false false false c tail p q low high = absurd (omega (arith, high))

module _ (c : ℕ) (tail : List ℕ) where
  pub two-of : 0xC0 ≤ get_or (encode c ++ tail) 0 0 → get_or (encode c ++ tail) 0 0 ≤ 0xDF
      → (length (encode c) ≡ 2) × (c ≡ of_two (get_or (encode c ++ tail) 0 0) (get_or (encode c ++ tail) 1 0)) × IsContinuation (get_or (encode c ++ tail) 1 0)
  unfolding encode
  two-of low high = two-by (nat_lt c 128) (nat_lt c 2048) (nat_lt c 65536) c tail refl refl low high

  pub three-of : 0xE0 ≤ get_or (encode c ++ tail) 0 0 → get_or (encode c ++ tail) 0 0 ≤ 0xEF
      → (length (encode c) ≡ 3) × (c ≡ of_three (get_or (encode c ++ tail) 0 0) (get_or (encode c ++ tail) 1 0) (get_or (encode c ++ tail) 2 0))
      × IsContinuation (get_or (encode c ++ tail) 1 0) × IsContinuation (get_or (encode c ++ tail) 2 0)
  unfolding encode
  three-of low high = three-by (nat_lt c 128) (nat_lt c 2048) (nat_lt c 65536) c tail refl refl low high

-- a character, with its rest
record HasFirst (text : List ℕ) : Type 0 where
  c : ℕ
  rest : List ℕ
  parts : text ≡ encode c ++ rest

has-first : (text : List ℕ) → IsUtf8 text → 0 < length text → HasFirst text
has-first text utf8 some = of-chars _ (encodes-chars text utf8)
  where
    of-chars : (cs : List ℕ) → encodes cs ≡ text → HasFirst text
    of-chars [] e = absurd (let none = ap length e in omega (arith, none, some))
    of-chars (c ∷ cs) e = record { c = c; rest = encodes cs; parts = sym e }

-- the first n bytes encode c
pub record IsFirst (text : List ℕ) (n c : ℕ) : Type 0 where
  pub parts : text ≡ encode c ++ drop n text
  pub boundary : IsCharBoundary text n

is-first : (text : List ℕ) (n c : ℕ) (rest : List ℕ) → IsUtf8 text → text ≡ encode c ++ rest → length (encode c) ≡ n → IsFirst text n c
is-first text n c rest utf8 parts size =
    let behind : drop n text ≡ rest = ap (λ l. drop n l) parts ∙ ap (λ m. drop m (encode c ++ rest)) (sym size) ∙ drop-append_seam (encode c) rest in
    record {
      parts = parts ∙ ap (λ l. encode c ++ l) (sym behind);
      boundary = subst (λ m. IsCharBoundary text m) size (IsCharBoundary-at_seam text (encode c) rest parts (IsUtf8-past_char text rest c utf8 parts));
    }

module _ (text : List ℕ) (utf8 : IsUtf8 text) (some : 0 < length text) where
  pub first-two : 0xC0 ≤ get_or text 0 0 → get_or text 0 0 ≤ 0xDF → IsFirst text 2 (of_two (get_or text 0 0) (get_or text 1 0)) × IsContinuation (get_or text 1 0)
  first-two low high =
      let first = has-first text utf8 some in
      let same : (k : ℕ) → get_or (encode first.c ++ first.rest) k 0 ≡ get_or text k 0 = λ k. ap (λ l. get_or l k 0) (sym first.parts) in
      let known = two-of first.c first.rest (omega (arith, same 0, low)) (omega (arith, same 0, high)) in
      let is : first.c ≡ of_two (get_or text 0 0) (get_or text 1 0) = known.1 ∙ ap (λ b. of_two b (get_or (encode first.c ++ first.rest) 1 0)) (same 0) ∙ ap (λ b. of_two (get_or text 0 0) b) (same 1) in
      (subst (λ c. IsFirst text 2 c) is (is-first text 2 first.c first.rest utf8 first.parts known.0), subst IsContinuation (same 1) known.2)

  pub first-three : 0xE0 ≤ get_or text 0 0 → get_or text 0 0 ≤ 0xEF
      → IsFirst text 3 (of_three (get_or text 0 0) (get_or text 1 0) (get_or text 2 0)) × IsContinuation (get_or text 1 0) × IsContinuation (get_or text 2 0)
  first-three low high =
      let first = has-first text utf8 some in
      let same : (k : ℕ) → get_or (encode first.c ++ first.rest) k 0 ≡ get_or text k 0 = λ k. ap (λ l. get_or l k 0) (sym first.parts) in
      let known = three-of first.c first.rest (omega (arith, same 0, low)) (omega (arith, same 0, high)) in
      let is : first.c ≡ of_three (get_or text 0 0) (get_or text 1 0) (get_or text 2 0) =
      known.1 ∙ ap (λ b. of_three b (get_or (encode first.c ++ first.rest) 1 0) (get_or (encode first.c ++ first.rest) 2 0)) (same 0)
      ∙ ap (λ b. of_three (get_or text 0 0) b (get_or (encode first.c ++ first.rest) 2 0)) (same 1)
      ∙ ap (λ b. of_three (get_or text 0 0) (get_or text 1 0) b) (same 2) in
      (subst (λ c. IsFirst text 3 c) is (is-first text 3 first.c first.rest utf8 first.parts known.0), subst IsContinuation (same 1) known.2, subst IsContinuation (same 2) known.3)

  -- printable ASCII
  pub first-one : get_or text 0 0 < 0x80 → IsFirst text 1 (get_or text 0 0)
  first-one low =
      let c = get_or text 0 0 in
      is-first text 1 c (drop 1 text) utf8 (drop_more text 0 0 some ∙ ap (λ l. l ++ drop 1 text) (sym (encode_ascii c low))) (ap length (encode_ascii c low))

-- ---- no simple character at the beginning

-- a simple character has one byte, where it is printable ASCII, or two, or three
first-kind-by : (one two three : Bool) (c : ℕ) (tail : List ℕ) → nat_lt c 128 ≡ one → nat_lt c 2048 ≡ two → nat_lt c 65536 ≡ three → c < 65536
    → (c < 0x80) ⊎ (((0x80 ≤ c) × (0xC0 ≤ get_or (bytes_by one two three c ++ tail) 0 0) × (get_or (bytes_by one two three c ++ tail) 0 0 ≤ 0xDF) × (2 ≤ length (bytes_by one two three c ++ tail)))
    ⊎ ((0x800 ≤ c) × (0xE0 ≤ get_or (bytes_by one two three c ++ tail) 0 0) × (get_or (bytes_by one two three c ++ tail) 0 0 ≤ 0xEF) × (3 ≤ length (bytes_by one two three c ++ tail))))
first-kind-by true two three c tail p q r low = inl (grind (arith, nat_tests, p))
first-kind-by false true three c tail p q r low = let high : 128 ≤ c = grind (arith, nat_tests, p) in let less : c < 2048 = grind (arith, nat_tests, q) in inr (inl (high, omega (arith, high), omega (arith, less), omega arith))
first-kind-by false false true c tail p q r low = let high : 2048 ≤ c = grind (arith, nat_tests, q) in inr (inr (high, omega (arith, high), omega (arith, low), omega arith))
first-kind-by false false false c tail p q r low = absurd (let high : 65536 ≤ c = grind (arith, nat_tests, r) in omega (arith, high, low))

pub first-kind : (c : ℕ) (tail : List ℕ) → c < 65536
    → (c < 0x80) ⊎ (((0x80 ≤ c) × (0xC0 ≤ get_or (encode c ++ tail) 0 0) × (get_or (encode c ++ tail) 0 0 ≤ 0xDF) × (2 ≤ length (encode c ++ tail)))
    ⊎ ((0x800 ≤ c) × (0xE0 ≤ get_or (encode c ++ tail) 0 0) × (get_or (encode c ++ tail) 0 0 ≤ 0xEF) × (3 ≤ length (encode c ++ tail))))
unfolding encode
first-kind c tail low = first-kind-by (nat_lt c 128) (nat_lt c 2048) (nat_lt c 65536) c tail refl refl refl low
