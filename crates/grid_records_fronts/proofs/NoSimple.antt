-- A simple character has one byte, where it is printable ASCII, or two, or three: where these are none, there is none.
use Rattle.std.proofs.Common.{◌≡◌, IfNone, None, Option, Some, ◌⊎◌, ℕ, zero, suc, ◌+◌, ◌≤◌, ◌<◌, true, false, List, ◌++◌, length, get_or, ap, sym, subst, ◌∙◌, arith, append-nil, length-append, ⊎_elim}
use Rattle.std.specs.Int.{is_in_range}
use Rattle.std.proofs.lemmas.Bool.Decides.{nat_tests}
use Rattle.std.proofs.Math.Utf8.{encode}
use Rattle.std.proofs.lemmas.Str.{encode_ascii}
use Rattle.grid_records_measure.specs.SimpleCharacters.{AreOfThree, AreOfTwo, of_three, of_two, takes}
use Rattle.grid_records_fronts.specs.Fronts.{BeginsWithAsciiOrNoSimple, BeginsWithNoSimple, BeginsWithSimple}
use Rattle.grid_records_fronts.proofs.FirstBytes.{first-kind, three-of, two-of}

takes-low : (c columns : ℕ) → takes c columns ≡ true → c < 65536
takes-low c zero h = grind (arith, nat_tests, h)
takes-low c (suc zero) h = grind (arith, nat_tests, h)
takes-low c (suc (suc zero)) h = grind (arith, nat_tests, h)
takes-low c (suc (suc (suc n))) h = absurd (cc h)

takes-ascii : (c columns : ℕ) → takes c columns ≡ true → c < 0x80 → is_in_range 0x20 0x7E c ≡ true
takes-ascii c zero h low = absurd (grind (arith, nat_tests, h, low))
takes-ascii c (suc zero) h low = grind (arith, nat_tests, h, low)
takes-ascii c (suc (suc zero)) h low = absurd (grind (arith, nat_tests, h, low))
takes-ascii c (suc (suc (suc n))) h low = absurd (cc h)

-- a simple character that is no ASCII: what its first byte is, and of how many it is at least
module _ (text : List ℕ) (columns : ℕ) (rest : List ℕ) (simple : BeginsWithSimple text columns rest) where
  parts : text ≡ encode simple.character ++ rest
  parts = simple.begins.parts ∙ ap (λ l. l ++ rest) (append-nil (encode simple.character))

  same : (k : ℕ) → get_or (encode simple.character ++ rest) k 0 ≡ get_or text k 0
  same k = ap (λ l. get_or l k 0) (sym parts)

  abbrev IsTwo : Type 0
  IsTwo = (0x80 ≤ simple.character) × (0xC0 ≤ get_or text 0 0) × (get_or text 0 0 ≤ 0xDF) × (2 ≤ length text)

  abbrev IsThree : Type 0
  IsThree = (0x800 ≤ simple.character) × (0xE0 ≤ get_or text 0 0) × (get_or text 0 0 ≤ 0xEF) × (3 ≤ length text)

  kinds : (simple.character < 0x80) ⊎ (IsTwo ⊎ IsThree)
  kinds = subst (λ l. (simple.character < 0x80) ⊎ (((0x80 ≤ simple.character) × (0xC0 ≤ get_or l 0 0) × (get_or l 0 0 ≤ 0xDF) × (2 ≤ length l)) ⊎ ((0x800 ≤ simple.character) × (0xE0 ≤ get_or l 0 0) × (get_or l 0 0 ≤ 0xEF) × (3 ≤ length l)))) (sym parts)
      (first-kind simple.character rest (takes-low simple.character columns simple.simple))

  is-ascii : (IsTwo → ⊥) → (IsThree → ⊥) → is_in_range 0x20 0x7E simple.character ≡ true
  is-ascii two three = ⊎_elim (takes-ascii simple.character columns simple.simple) (λ (more : IsTwo ⊎ IsThree). absurd (⊎_elim two three more)) kinds

  not-two : (AreOfTwo (get_or text 0 0) (get_or text 1 0) → (n : ℕ) → takes (of_two (get_or text 0 0) (get_or text 1 0)) n ≡ false) → IsTwo → ⊥
  not-two others two =
      let known = two-of simple.character rest (omega (arith, same 0, two.1)) (omega (arith, same 0, two.2)) in
      let is : simple.character ≡ of_two (get_or text 0 0) (get_or text 1 0) = known.1 ∙ ap (λ b. of_two b (get_or (encode simple.character ++ rest) 1 0)) (same 0) ∙ ap (λ b. of_two (get_or text 0 0) b) (same 1) in
      let last : (0x80 ≤ get_or text 1 0) × (get_or text 1 0 ≤ 0xBF) = (omega (arith, same 1, known.2.0), omega (arith, same 1, known.2.1)) in
      let lead : 0xC2 ≤ get_or text 0 0 = omega (arith, is, two.0, last.0, last.1) in
      let none = others (record { begins = (lead, two.2); goes_on = last }) columns in
      absurd (cc (simple.simple, none, is))

  not-three : (AreOfThree (get_or text 0 0) (get_or text 1 0) (get_or text 2 0) → (n : ℕ) → takes (of_three (get_or text 0 0) (get_or text 1 0) (get_or text 2 0)) n ≡ false) → IsThree → ⊥
  not-three others three =
      let known = three-of simple.character rest (omega (arith, same 0, three.1)) (omega (arith, same 0, three.2)) in
      let is : simple.character ≡ of_three (get_or text 0 0) (get_or text 1 0) (get_or text 2 0) =
      known.1 ∙ ap (λ b. of_three b (get_or (encode simple.character ++ rest) 1 0) (get_or (encode simple.character ++ rest) 2 0)) (same 0)
      ∙ ap (λ b. of_three (get_or text 0 0) b (get_or (encode simple.character ++ rest) 2 0)) (same 1)
      ∙ ap (λ b. of_three (get_or text 0 0) (get_or text 1 0) b) (same 2) in
      let middle : (0x80 ≤ get_or text 1 0) × (get_or text 1 0 ≤ 0xBF) = (omega (arith, same 1, known.2.0), omega (arith, same 1, known.2.1)) in
      let last : (0x80 ≤ get_or text 2 0) × (get_or text 2 0 ≤ 0xBF) = (omega (arith, same 2, known.3.0), omega (arith, same 2, known.3.1)) in
      let none = others (record { begins = (three.1, three.2); goes_on = (middle.0, middle.1, last.0, last.1); shortest = subst (λ n. 0x800 ≤ n) is three.0 }) columns in
      absurd (cc (simple.simple, none, is))

-- where the first byte begins two bytes, three bytes, or neither
module _ (text : List ℕ) where
  pub none-of-two : 0xC0 ≤ get_or text 0 0 → get_or text 0 0 ≤ 0xDF → (AreOfTwo (get_or text 0 0) (get_or text 1 0) → (n : ℕ) → takes (of_two (get_or text 0 0) (get_or text 1 0)) n ≡ false) → BeginsWithAsciiOrNoSimple text
  none-of-two low high others columns rest simple =
      is-ascii text columns rest simple (not-two text columns rest simple others) (λ (three : IsThree text columns rest simple). omega (arith, high, three.1))

  pub none-of-three : 0xE0 ≤ get_or text 0 0 → get_or text 0 0 ≤ 0xEF → (AreOfThree (get_or text 0 0) (get_or text 1 0) (get_or text 2 0) → (n : ℕ) → takes (of_three (get_or text 0 0) (get_or text 1 0) (get_or text 2 0)) n ≡ false) → BeginsWithAsciiOrNoSimple text
  none-of-three low high others columns rest simple =
      is-ascii text columns rest simple (λ (two : IsTwo text columns rest simple). omega (arith, low, two.2)) (not-three text columns rest simple others)

  pub none-else : (0xC0 ≤ get_or text 0 0 → get_or text 0 0 ≤ 0xDF → 2 ≤ length text → ⊥) → (0xE0 ≤ get_or text 0 0 → get_or text 0 0 ≤ 0xEF → 3 ≤ length text → ⊥) → BeginsWithAsciiOrNoSimple text
  none-else no_two no_three columns rest simple =
      is-ascii text columns rest simple (λ (two : IsTwo text columns rest simple). no_two two.1 two.2 two.3) (λ (three : IsThree text columns rest simple). no_three three.1 three.2 three.3)

-- marks that are no simple characters, and what has four bytes
takes-no-sign : (c columns : ℕ) → takes c columns ≡ true → 0x2040 ≤ c → c < 0x3000 → ⊥
takes-no-sign c zero h low high = grind (arith, nat_tests, h, low, high)
takes-no-sign c (suc zero) h low high = grind (arith, nat_tests, h, low, high)
takes-no-sign c (suc (suc zero)) h low high = grind (arith, nat_tests, h, low, high)
takes-no-sign c (suc (suc (suc n))) h low high = absurd (cc h)

module _ (text : List ℕ) (columns : ℕ) (rest : List ℕ) (simple : BeginsWithSimple text columns rest) where
  first-is : simple.character < 0x80 → get_or text 0 0 ≡ simple.character
  first-is low = sym (same text columns rest simple 0) ∙ ap (λ l. get_or (l ++ rest) 0 0) (encode_ascii simple.character low)

  -- the text has a byte
  some : 0 < length text
  some = ⊎_elim
      (λ low. let one = ap length (parts text columns rest simple) in let size = ap length (encode_ascii simple.character low) in omega (arith, one, size, length-append (encode simple.character) rest))
      (λ more. ⊎_elim (λ two. omega (arith, two.3)) (λ three. omega (arith, three.3)) more)
      (kinds text columns rest simple)

  no-sign : (get_or text 0 0 ≡ 0xE2) → 0x81 ≤ get_or text 1 0 → ⊥
  no-sign lead middle = ⊎_elim
      (λ low. omega (arith, first-is low, low, lead))
      (λ more. ⊎_elim
      (λ two. omega (arith, two.2, lead))
      (λ three.
      let known = three-of simple.character rest (omega (arith, same text columns rest simple 0, three.1)) (omega (arith, same text columns rest simple 0, three.2)) in
      takes-no-sign simple.character columns simple.simple (omega (arith, known.1, known.2.0, known.2.1, known.3.0, same text columns rest simple 0, same text columns rest simple 1, lead, middle)) (omega (arith, known.1, known.2.1, known.3.1, same text columns rest simple 0, lead)))
      more)
      (kinds text columns rest simple)

  no-long : 0xF0 ≤ get_or text 0 0 → ⊥
  no-long lead = ⊎_elim
      (λ low. omega (arith, first-is low, low, lead))
      (λ more. ⊎_elim (λ two. omega (arith, two.2, lead)) (λ three. omega (arith, three.2, lead)) more)
      (kinds text columns rest simple)

pub none-of-nothing : (text : List ℕ) → length text < 1 → BeginsWithNoSimple text
none-of-nothing text none columns rest simple = omega (arith, none, some text columns rest simple)

pub none-of-emoji : (text : List ℕ) → (((get_or text 0 0 ≡ 0xE2) × (0x81 ≤ get_or text 1 0)) ⊎ (0xF0 ≤ get_or text 0 0)) → BeginsWithNoSimple text
none-of-emoji text begins columns rest simple = ⊎_elim (λ sign. no-sign text columns rest simple sign.0 sign.1) (λ long. no-long text columns rest simple long) begins

pub none-of-letter : {T : Type 0} (text : List ℕ) (found : Option T) → is_in_range 0x20 0x7E (get_or text 0 0) ≡ false → IfNone found (BeginsWithAsciiOrNoSimple text) → IfNone found (BeginsWithNoSimple text)
none-of-letter text None other none = λ columns rest simple.
    let ascii = none columns rest simple in
    let low : simple.character < 0x80 = grind (arith, nat_tests, ascii) in
    absurd (cc (ascii, other, first-is text columns rest simple low))
none-of-letter text (Some _) other none = tt
