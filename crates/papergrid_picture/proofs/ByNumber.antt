-- Sizes by number.
use Rattle.std.proofs.Common.{◌≡◌, ℕ, zero, suc, ◌+◌, ◌<◌, ◌≤◌, List, [], ◌∷◌, ◌++◌, map, length, take, slice_index, refl, ap, sym, ◌∙◌, arith, add-one}
use Rattle.std.specs.List.{range_with_len}
use Rattle.std.proofs.lemmas.List.{take_all, take_more}
use Rattle.std.proofs.lemmas.List.FromFn.{map-range_with_len_more}
use Rattle.papergrid_picture.specs.Tables.{sizes_of}

taken : (sizes : List ℕ) (n : ℕ) → n ≤ length sizes → sizes_of (slice_index sizes) n ≡ take n sizes
taken sizes zero h = refl
taken sizes (suc n) h =
    let place : 0 + n ≡ n = omega arith in
    let less : n ≤ length sizes = omega arith in
    let below : n < length sizes = omega arith in
    ap (λ m. map (slice_index sizes) (range_with_len 0 m)) (sym (add-one n)) ∙ map-range_with_len_more (slice_index sizes) 0 n n place
    ∙ ap (λ xs. xs ++ slice_index sizes n ∷ []) (taken sizes n less) ∙ sym (take_more sizes n 0 below) ∙ ap (λ m. take m sizes) (add-one n)

-- as many of them as there are, are all
pub by_number : (sizes : List ℕ) (n : ℕ) → length sizes ≡ n → sizes_of (slice_index sizes) n ≡ sizes
by_number sizes n long =
    let within : n ≤ length sizes = omega arith in
    let all : length sizes ≤ n = omega arith in
    taken sizes n within ∙ take_all n sizes all
