-- A prefix of a text, and what follows its byte order mark.
use Rattle.std.proofs.Common.{◌≡◌, ◌==◌, ◌&&◌, ℕ, Bool, false, true, List, [], ◌∷◌, ◌++◌, ap, if◌then◌else◌, not, refl}
use Rattle.std.proofs.lemmas.Bool.{false≢true}
use Rattle.basinmug_delimiter.specs.Preamble.{text_after_mark, is_mark, tells_mark}

-- where the first byte, or the second, is none of a mark, there is none
other-first : (is_first : Bool) (others : Bool) → not is_first ≡ true → is_first && others ≡ false
other-first true others told = absurd (false≢true told)
other-first false others told = refl

other-second : (is_first is_second others : Bool) → not (is_first && is_second) ≡ true → is_first && (is_second && others) ≡ false
other-second true true others told = absurd (false≢true told)
other-second true false others told = refl
other-second false is_second others told = refl

-- what shows whether a mark is at the start shows it of each text that begins with it
pub mark-more : (front rest : List ℕ) → tells_mark front ≡ true → text_after_mark (front ++ rest) ≡ text_after_mark front ++ rest
mark-more [] rest told = absurd (false≢true told)
mark-more (a ∷ []) [] told = refl
mark-more (a ∷ []) (b ∷ []) told = refl
mark-more (a ∷ []) (b ∷ c ∷ rest) told =
    ap (λ (marked : Bool). if marked then rest else a ∷ b ∷ c ∷ rest) (other-first (a == 0xef) ((b == 0xbb) && (c == 0xbf)) told)
mark-more (a ∷ b ∷ []) [] told = refl
mark-more (a ∷ b ∷ []) (c ∷ rest) told =
    ap (λ (marked : Bool). if marked then rest else a ∷ b ∷ c ∷ rest) (other-second (a == 0xef) (b == 0xbb) (c == 0xbf) told)
mark-more (a ∷ b ∷ c ∷ front) rest told =
    elim (is_mark a b c) as
    (λ (marked : Bool). (if marked then front ++ rest else a ∷ b ∷ c ∷ (front ++ rest)) ≡ (if marked then front else a ∷ b ∷ c ∷ front) ++ rest) [
      | true ↦ refl
      | false ↦ refl
    ]

pub told-more : (front rest : List ℕ) → tells_mark front ≡ true → tells_mark (front ++ rest) ≡ true
told-more [] rest told = absurd (false≢true told)
told-more (a ∷ []) [] told = told
told-more (a ∷ []) (b ∷ []) told = ap not (other-first (a == 0xef) (b == 0xbb) told)
told-more (a ∷ []) (b ∷ c ∷ rest) told = refl
told-more (a ∷ b ∷ []) [] told = told
told-more (a ∷ b ∷ []) (c ∷ rest) told = refl
told-more (a ∷ b ∷ c ∷ front) rest told = refl
