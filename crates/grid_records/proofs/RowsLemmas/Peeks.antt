-- Rows that are looked up text by text are the evened rows.
use Rattle.std.proofs.Common.{arith, ◌≡◌, ◌∙◌, ◌+◌, ◌-◌, ◌++◌, replicate, take, ℕ, zero, suc, List, [], ◌∷◌, ap, drop, get_or, length, refl, sym}
use Rattle.std.proofs.lemmas.List.{drop_all, drop_more, drop-drop, get_or-drop}
use Rattle.grid_records_traits.specs.Rows.{evened, evened_row, row_at}
use Rattle.grid_records.specs.RecordRows.Peeking.{row_texts_from, rows_from}

none_evened : (row : List (List ℕ)) → evened_row 0 row ≡ []
none_evened row =
    let none : 0 - length row ≡ 0 = omega arith in
    rw none refl

take_none : (n : ℕ) → take n (let none : List (List ℕ) = [] in none) ≡ []
take_none zero = refl
take_none (suc n) = refl

-- the first text, and the others
next_evened : (n : ℕ) (row : List (List ℕ)) → evened_row (suc n) row ≡ get_or row 0 [] ∷ evened_row n (drop 1 row)
next_evened n [] =
    let all : suc n - 0 ≡ suc n = omega arith in
    let others : n - 0 ≡ n = omega arith in
    rw (all, others) (ap (λ (none : List (List ℕ)). [] ∷ (none ++ replicate n [])) (sym (take_none n)))
next_evened n (text ∷ row) =
    let same : suc n - suc (length row) ≡ n - length row = omega arith in
    rw same refl

-- the texts of a row, from one on
texts-evened : (rows : List (List (List ℕ))) (i k n : ℕ) → row_texts_from rows i k n ≡ evened_row n (drop k (row_at rows i))
texts-evened rows i k zero = sym (none_evened (drop k (row_at rows i)))
texts-evened rows i k (suc n) =
    let row = row_at rows i in
    let here : k + 0 ≡ k = omega arith in
    let first : get_or (drop k row) 0 [] ≡ get_or row k [] = get_or-drop k row 0 [] ∙ ap (λ j. get_or row j []) here in
    ap (λ texts. get_or row k [] ∷ texts) (texts-evened rows i (k + 1) n ∙ ap (evened_row n) (sym (drop-drop 1 k row)))
    ∙ ap (λ text. text ∷ evened_row n (drop 1 (drop k row))) (sym first)
    ∙ sym (next_evened n (drop k row))

-- the rows, from one on
rows-evened : (rows : List (List (List ℕ))) (columns k n : ℕ) → k + n ≡ length rows → rows_from rows columns k n ≡ evened columns (drop k rows)
rows-evened rows columns k zero all = ap (evened columns) (sym (drop_all k rows (omega (arith, all))))
rows-evened rows columns k (suc n) all =
    ap (λ texts. texts ∷ rows_from rows columns (k + 1) n) (texts-evened rows k 0 columns)
    ∙ ap (λ others. evened_row columns (row_at rows k) ∷ others) (rows-evened rows columns (k + 1) n (omega (arith, all)))
    ∙ ap (evened columns) (sym (drop_more rows k [] (omega (arith, all))))

pub all_rows : (rows : List (List (List ℕ))) (columns n : ℕ) → n ≡ length rows → rows_from rows columns 0 n ≡ evened columns rows
all_rows rows columns n all = rows-evened rows columns 0 n (omega (arith, all))
