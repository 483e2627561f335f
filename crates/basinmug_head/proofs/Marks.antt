-- Bytes after a byte order mark.
use Rattle.std.proofs.Common.{◌≡◌, ◌∙◌, ◌+◌, ◌-◌, ◌==◌, ◌&&◌, ◌≤◌, ℕ, zero, suc, Bool, false, true, List, [], ◌∷◌, ◌++◌, ap, arith, if◌then◌else◌, length, not, refl, sym, take}
use Rattle.std.proofs.lemmas.Bool.{false≢true}
use Rattle.basinmug_delimiter.specs.Preamble.{tells_mark}
use Rattle.csv.specs.Reading.{is_bom, strip_bom}

-- the mark goes, where it is one
abbrev stripped : Bool → ℕ → ℕ → ℕ → List ℕ → List ℕ
stripped marked a b c rest = if marked then rest else a ∷ b ∷ c ∷ rest

-- where the first byte, or the second, is none of a mark, there is none
other-first : (is_first is_second is_third : Bool) → not is_first ≡ true → (is_first && is_second) && is_third ≡ false
other-first true is_second is_third told = absurd (false≢true told)
other-first false is_second is_third told = refl

other-second : (is_first is_second is_third : Bool) → not (is_first && is_second) ≡ true → (is_first && is_second) && is_third ≡ false
other-second true true is_third told = absurd (false≢true told)
other-second true false is_third told = refl
other-second false is_second is_third told = refl

-- what decides whether a mark is at the start decides it for each text that begins with it
pub strip-more : (front rest : List ℕ) → tells_mark front ≡ true → strip_bom (front ++ rest) ≡ strip_bom front ++ rest
unfolding strip_bom
strip-more [] rest told = absurd (false≢true told)
strip-more (a ∷ []) [] told = refl
strip-more (a ∷ []) (b ∷ []) told = refl
strip-more (a ∷ []) (b ∷ c ∷ rest) told = ap (λ (marked : Bool). stripped marked a b c rest) (other-first (a == 0xef) (b == 0xbb) (c == 0xbf) told)
strip-more (a ∷ b ∷ []) [] told = refl
strip-more (a ∷ b ∷ []) (c ∷ rest) told = ap (λ (marked : Bool). stripped marked a b c rest) (other-second (a == 0xef) (b == 0xbb) (c == 0xbf) told)
strip-more (a ∷ b ∷ c ∷ front) rest told =
    elim (is_bom a b c) as (λ (marked : Bool). stripped marked a b c (front ++ rest) ≡ stripped marked a b c front ++ rest) [
      | true ↦ refl
      | false ↦ refl
    ]

-- prefixes of texts that have fewer than three bytes
abbrev nothing : List ℕ
nothing = []

take-nil : (n : ℕ) → take n nothing ≡ []
take-nil zero = refl
take-nil (suc n) = refl

taken-one : (a n : ℕ) → strip_bom (take n (a ∷ [])) ≡ take n (a ∷ [])
unfolding strip_bom
taken-one a zero = refl
taken-one a (suc n) = ap (λ (of : List ℕ). strip_bom (a ∷ of)) (take-nil n) ∙ ap (λ (of : List ℕ). a ∷ of) (sym (take-nil n))

taken-two : (a b n : ℕ) → strip_bom (take n (a ∷ b ∷ [])) ≡ take n (a ∷ b ∷ [])
unfolding strip_bom
taken-two a b zero = refl
taken-two a b (suc zero) = refl
taken-two a b (suc (suc n)) = ap (λ (of : List ℕ). strip_bom (a ∷ b ∷ of)) (take-nil n) ∙ ap (λ (of : List ℕ). a ∷ b ∷ of) (sym (take-nil n))

-- a prefix of a text that has three bytes
taken-whole : (a b c : ℕ) (rest : List ℕ) (n : ℕ) → is_bom a b c ≡ false → strip_bom (take n (a ∷ b ∷ c ∷ rest)) ≡ take n (a ∷ b ∷ c ∷ rest)
unfolding strip_bom
taken-whole a b c rest zero none = refl
taken-whole a b c rest (suc zero) none = refl
taken-whole a b c rest (suc (suc zero)) none = refl
taken-whole a b c rest (suc (suc (suc n))) none = ap (λ (marked : Bool). stripped marked a b c (take n rest)) none

taken-behind : (a b c : ℕ) (rest : List ℕ) (n k : ℕ) → is_bom a b c ≡ true → k ≡ suc (suc (suc n)) → strip_bom (take k (a ∷ b ∷ c ∷ rest)) ≡ take n rest
unfolding strip_bom
taken-behind a b c rest n k marked is = ap (λ (k : ℕ). strip_bom (take k (a ∷ b ∷ c ∷ rest))) is ∙ ap (λ (marked : Bool). stripped marked a b c (take n rest)) marked

taken-mark : (a b c : ℕ) (rest : List ℕ) (n : ℕ)
    → strip_bom (take (length (a ∷ b ∷ c ∷ rest) - length (strip_bom (a ∷ b ∷ c ∷ rest)) + n) (a ∷ b ∷ c ∷ rest)) ≡ take n (strip_bom (a ∷ b ∷ c ∷ rest))
unfolding strip_bom
taken-mark a b c rest n =
    let text : List ℕ = a ∷ b ∷ c ∷ rest in
    elim (is_bom a b c) as
    (λ (marked : Bool). is_bom a b c ≡ marked → strip_bom (take (length text - length (stripped marked a b c rest) + n) text) ≡ take n (stripped marked a b c rest)) [
      | true ↦ λ is. taken-behind a b c rest n (length text - length rest + n) is (omega arith)
      | false ↦
          λ is.
          let none : length text - length text + n ≡ n = omega arith in
          ap (λ (k : ℕ). strip_bom (take k text)) none ∙ taken-whole a b c rest n is
    ] refl

-- a prefix of a text, which goes so far after the mark
pub strip-take : (text : List ℕ) (n : ℕ) → strip_bom (take (length text - length (strip_bom text) + n) text) ≡ take n (strip_bom text)
unfolding strip_bom
strip-take [] n = ap strip_bom (take-nil (0 - 0 + n)) ∙ sym (take-nil n)
strip-take (a ∷ []) n = let same : length (a ∷ []) - length (a ∷ []) + n ≡ n = omega arith in ap (λ (k : ℕ). strip_bom (take k (a ∷ []))) same ∙ taken-one a n
strip-take (a ∷ b ∷ []) n = let same : length (a ∷ b ∷ []) - length (a ∷ b ∷ []) + n ≡ n = omega arith in ap (λ (k : ℕ). strip_bom (take k (a ∷ b ∷ []))) same ∙ taken-two a b n
strip-take (a ∷ b ∷ c ∷ rest) n = taken-mark a b c rest n

pub strip-shorter : (text : List ℕ) → length (strip_bom text) ≤ length text
unfolding strip_bom
strip-shorter [] = omega arith
strip-shorter (a ∷ []) = omega arith
strip-shorter (a ∷ b ∷ []) = omega arith
strip-shorter (a ∷ b ∷ c ∷ rest) =
    elim (is_bom a b c) as (λ (marked : Bool). length (stripped marked a b c rest) ≤ length (a ∷ b ∷ c ∷ rest)) [
      | true ↦ omega arith
      | false ↦ omega arith
    ]

told-second : (is_first is_second : Bool) → not is_first ≡ true → not (is_first && is_second) ≡ true
told-second true is_second told = absurd (false≢true told)
told-second false is_second told = refl

pub told-more : (front rest : List ℕ) → tells_mark front ≡ true → tells_mark (front ++ rest) ≡ true
told-more [] rest told = absurd (false≢true told)
told-more (a ∷ []) [] told = told
told-more (a ∷ []) (b ∷ []) told = told-second (a == 0xef) (b == 0xbb) told
told-more (a ∷ []) (b ∷ c ∷ rest) told = refl
told-more (a ∷ b ∷ []) [] told = told
told-more (a ∷ b ∷ []) (c ∷ rest) told = refl
told-more (a ∷ b ∷ c ∷ front) rest told = refl
