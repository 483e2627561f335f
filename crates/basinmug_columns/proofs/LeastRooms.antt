-- Widths that are found one after the other.
use Rattle.std.proofs.Common.{◌≡◌, ◌∙◌, ap, sym, ℕ, ◌<◌, ◌+◌, List, [], ◌∷◌, ◌++◌, get_or, length, map, take, arith, zero-add}
use Rattle.std.specs.List.{enumerate_from}
use Rattle.std.proofs.lemmas.List.{map-append, take_more, length-take}
use Rattle.basinmug_columns.proofs.Sums.{placed_rooms}

numbered-more : {X : Type 0} (n : ℕ) (xs : List X) (x : X) → enumerate_from n (xs ++ x ∷ []) ≡ enumerate_from n xs ++ (n + length xs, x) ∷ []
numbered-more {X} n [] x = let e : n ≡ n + 0 = omega arith in ap {B = List (ℕ × X)} (λ k. (k, x) ∷ []) e
numbered-more {X} n (y ∷ ys) x =
    let e : n + 1 + length ys ≡ n + length (y ∷ ys) = omega arith in
    ap (λ rest. (n, y) ∷ rest) (numbered-more (n + 1) ys x ∙ ap {B = List (ℕ × X)} (λ k. enumerate_from (n + 1) ys ++ (k, x) ∷ []) e)

-- the width of one column more
pub next-placed : (room : ℕ → ℕ → ℕ) (widths : List ℕ) (column width : ℕ) (old new : List ℕ) → column < length widths → width ≡ get_or widths column 0 → old ≡ placed_rooms room (take column widths)
    → new ≡ old ++ room column width ∷ [] → new ≡ placed_rooms room (take (column + 1) widths)
next-placed of widths column width old new inside is before grown =
    let room : ℕ × ℕ → ℕ = λ placed. of placed.0 placed.1 in
    let count : length (take column widths) ≡ column = omega (arith, length-take column widths, inside) in
    let taken : take (column + 1) widths ≡ take column widths ++ width ∷ [] = take_more widths column 0 inside ∙ ap (λ w. take column widths ++ w ∷ []) (sym is) in
    grown ∙ ap (λ l. l ++ of column width ∷ []) before
    ∙ sym (ap (map room) (ap (enumerate_from 0) taken ∙ numbered-more 0 (take column widths) width ∙ ap {B = List (ℕ × ℕ)} (λ (k : ℕ). enumerate_from 0 (take column widths) ++ (k, width) ∷ []) (zero-add (length (take column widths)) ∙ count))
    ∙ map-append room (enumerate_from 0 (take column widths)) ((column, width) ∷ []))
