-- Rows that are evened already.
use Rattle.std.proofs.Common.{arith, ◌≡◌, ◌-◌, ℕ, suc, List, [], ◌∷◌, All, ap, get_or, length, length-append, refl, replicate, take}
use Rattle.std.proofs.lemmas.List.{append-nil, length-replicate, length-take, take_all}
use Rattle.std.proofs.lemmas.List.Elements.{All-map}
use Rattle.grid_records_traits.specs.Rows.{evened, evened_row}

-- a row of so many texts is evened already
evened_row-same : (row : List (List ℕ)) (n : ℕ) → length row ≡ n → evened_row n row ≡ row
evened_row-same row n long =
    let all : take n row ≡ row = take_all n row (omega arith) in
    let none : n - length row ≡ 0 = omega arith in
    rw (all, none) (append-nil row)

-- rows of so many texts are evened already
pub evened-same : (rows : List (List (List ℕ))) (n : ℕ) → All (λ row. length row ≡ n) rows → evened n rows ≡ rows
evened-same [] n long = refl
evened-same (row ∷ rows) n long =
    rw (evened_row-same row n (long 0 row (omega arith))) (ap (λ v. row ∷ v) (evened-same rows n (λ k d lt. long (suc k) d (omega arith))))

pub length-evened_row : (row : List (List ℕ)) (n : ℕ) → length (evened_row n row) ≡ n
length-evened_row row n =
    let front = length-take n row in
    let behind = length-replicate (n - length row) (let none : List ℕ = [] in none) in
    omega (arith, length-append (take n row) (replicate (n - length row) []), front, behind)

-- rows that were evened are
pub evened-twice : (rows : List (List (List ℕ))) (n : ℕ) → evened n (evened n rows) ≡ evened n rows
evened-twice rows n = evened-same (evened n rows) n (All-map (λ row. length row ≡ n) (evened_row n) rows (λ k d lt. length-evened_row (get_or rows k d) n))
