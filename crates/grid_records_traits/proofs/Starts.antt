-- Texts by where they begin in another.
use Rattle.std.proofs.Common.{◌≡◌, ℕ, zero, suc, ◌+◌, ◌-◌, ◌<◌, ◌≤◌, List, [], ◌∷◌, get_or, length, refl, ap, ◌∙◌, arith}
use Rattle.std.specs.Prelude.{slice_range}
use Rattle.std.proofs.lemmas.List.{get_or_past}
use Rattle.grid_records_traits.specs.SingleLines.{texts_at, texts_from}

pub length-texts_from : (text : List ℕ) (start : ℕ) (starts : List ℕ) → length (texts_from text start starts) ≡ length starts
length-texts_from text start [] = refl
length-texts_from text start (next ∷ starts) = ap suc (length-texts_from text next starts)

pub length-texts_at : (text starts : List ℕ) → length (texts_at text starts) ≡ length starts - 1
length-texts_at text [] = refl
length-texts_at text (start ∷ starts) =
    let same = length-texts_from text start starts in
    omega (arith, same)

-- one of them
pub get-texts_from : (text : List ℕ) (start : ℕ) (starts : List ℕ) (i : ℕ) → i < length starts
    → get_or (texts_from text start starts) i [] ≡ slice_range text (get_or (start ∷ starts) i 0) (get_or starts i 0 - 1)
get-texts_from text start [] i below = absurd (omega arith)
get-texts_from text start (next ∷ starts) zero below = refl
get-texts_from text start (next ∷ starts) (suc i) below = get-texts_from text next starts i (omega arith)

pub get-texts_at : (text starts : List ℕ) (i : ℕ) → i + 1 < length starts
    → get_or (texts_at text starts) i [] ≡ slice_range text (get_or starts i 0) (get_or starts (i + 1) 0 - 1)
get-texts_at text [] i below = absurd (omega arith)
get-texts_at text (start ∷ starts) i below =
    let next : suc i ≡ i + 1 = omega arith in
    get-texts_from text start starts i (omega arith) ∙ ap (λ k. slice_range text (get_or (start ∷ starts) i 0) (get_or (start ∷ starts) k 0 - 1)) next

-- after the last none
pub past-texts_at : (text starts : List ℕ) (i : ℕ) → length starts - 1 ≤ i → get_or (texts_at text starts) i [] ≡ []
past-texts_at text starts i past = get_or_past (texts_at text starts) i [] (omega (arith, length-texts_at text starts))

-- where no number is given
pub none-given : (numbers : List ℕ) (i other : ℕ) → length numbers ≡ 0 → get_or numbers i other ≡ other
none-given numbers i other none = get_or_past numbers i other (omega (arith, none))
