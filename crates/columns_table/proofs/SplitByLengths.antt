-- A list in pieces: of a longer list, with one more piece, and of what a function makes of it.
use Rattle.std.proofs.Common.{◌≡◌, ℕ, ◌+◌, ◌≤◌, List, [], ◌∷◌, ◌++◌, map, length, sum, take, drop, refl, ap, sym, ◌∙◌, arith, length-drop}
use Rattle.std.proofs.lemmas.List.{drop-append-le, drop-drop, drop-map, take-append-le, take-map, take_all}
use Rattle.std.proofs.lemmas.List.Sums.{sum_by-append, sum_by-cons}
use Rattle.columns_table.specs.SplitByLengths.{split_by_lengths}

pub split_by_lengths-append : {X : Type 0} (counts : List ℕ) (xs ys : List X) → sum counts ≤ length xs → split_by_lengths counts (xs ++ ys) ≡ split_by_lengths counts xs
split_by_lengths-append [] xs ys h = refl
split_by_lengths-append (n ∷ ns) xs ys h =
    let total = sum_by-cons (λ k. k) n ns in
    let fits : n ≤ length xs = omega (arith, total) in
    let left : sum ns ≤ length (drop n xs) = omega (arith, total, length-drop n xs) in
    ap (λ piece. piece ∷ split_by_lengths ns (drop n (xs ++ ys))) (take-append-le n xs ys fits)
    ∙ ap (λ rest. take n xs ∷ split_by_lengths ns rest) (drop-append-le n xs ys fits)
    ∙ ap (λ rest. take n xs ∷ rest) (split_by_lengths-append ns (drop n xs) ys left)

-- one more piece, which takes what is left
pub split_by_lengths-more : {X : Type 0} (counts : List ℕ) (n : ℕ) (xs : List X) → sum counts + n ≡ length xs → split_by_lengths (counts ++ n ∷ []) xs ≡ split_by_lengths counts xs ++ drop (sum counts) xs ∷ []
split_by_lengths-more [] n xs h = let all : length xs ≤ n = omega arith in ap (λ piece. piece ∷ []) (take_all n xs all)
split_by_lengths-more (m ∷ ns) n xs h =
    let total = sum_by-cons (λ k. k) m ns in
    let left : sum ns + n ≡ length (drop m xs) = omega (arith, total, length-drop m xs) in
    ap (λ rest. take m xs ∷ rest) (split_by_lengths-more ns n (drop m xs) left)
    ∙ ap (λ rest. take m xs ∷ (split_by_lengths ns (drop m xs) ++ rest ∷ [])) (drop-drop (sum ns) m xs ∙ ap (λ k. drop k xs) (sym total))

pub sum-more : (counts : List ℕ) (n : ℕ) → sum (counts ++ n ∷ []) ≡ sum counts + n
sum-more counts n = omega (arith, sum_by-append (λ k. k) counts (n ∷ []))

pub split_by_lengths-map : {X Y : Type 0} (f : X → Y) (counts : List ℕ) (xs : List X) → split_by_lengths counts (map f xs) ≡ map (map f) (split_by_lengths counts xs)
split_by_lengths-map f [] xs = refl
split_by_lengths-map f (n ∷ ns) xs =
    ap (λ row. row ∷ split_by_lengths ns (drop n (map f xs))) (take-map f n xs)
    ∙ ap (λ rest. map f (take n xs) ∷ split_by_lengths ns rest) (drop-map f n xs)
    ∙ ap (λ rows. map f (take n xs) ∷ rows) (split_by_lengths-map f ns (drop n xs))
