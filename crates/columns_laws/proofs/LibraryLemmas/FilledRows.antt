-- Rows that are filled up to the longest hold the same texts at the same places.
use Rattle.std.proofs.Common.{◌≡◌, ◌-◌, ◌<◌, ◌≤◌, ℕ, zero, suc, max, List, [], ◌∷◌, ◌++◌, get_or, length, map, replicate, refl, ap, sym, ◌∙◌, arith}
use Rattle.std.proofs.lemmas.List.{append-nil, take_all}
use Rattle.grid_config_values.specs.declared.position.Position.{Position}
use Rattle.grid_records_traits.specs.Rows.{evened, evened_row, text_at}
use Rattle.grid_records_traits.proofs.EvenedRows.{length-evened_row}
use Rattle.tabled_text.specs.Rows.{filled, filled_row, longest}
use Rattle.columns_asked.specs.DrawnTables.{longest_row_length}
use Rattle.columns_laws.specs.Library.Tables.{AreRowsOfLength}

-- ---- the longest

longest-is : (rows : List (List (List ℕ))) → longest rows ≡ longest_row_length rows
longest-is [] = refl
longest-is (row ∷ rows) = ap (λ n. max (length row) n) (longest-is rows)

-- ---- texts at their places

none-at : (j : ℕ) → get_or {A = List ℕ} [] j [] ≡ []
none-at zero = refl
none-at (suc j) = refl

more-texts : (row : List (List ℕ)) (m j : ℕ) → get_or (row ++ replicate m []) j [] ≡ get_or row j []
more-texts [] zero j = refl
more-texts [] (suc m) zero = refl
more-texts [] (suc m) (suc j) = more-texts [] m j ∙ none-at j
more-texts (text ∷ row) m zero = refl
more-texts (text ∷ row) m (suc j) = more-texts row m j

module _ (n : ℕ) where
  row-filled : (row : List (List ℕ)) → length row ≤ n → filled_row n row ≡ evened_row n row
  row-filled row few = ap (λ (front : List (List ℕ)). front ++ replicate (n - length row) []) (sym (take_all n row few))

  rows-filled : (rows : List (List (List ℕ))) → longest_row_length rows ≤ n → map (filled_row n) rows ≡ evened n rows
  rows-filled [] few = refl
  rows-filled (row ∷ rows) few =
      ap (λ (first : List (List ℕ)). first ∷ map (filled_row n) rows) (row-filled row (omega (arith, few)))
      ∙ ap (λ (rest : List (List (List ℕ))). evened_row n row ∷ rest) (rows-filled rows (omega (arith, few)))

  row-text : (row : List (List ℕ)) (j : ℕ) → length row ≤ n → get_or (evened_row n row) j [] ≡ get_or row j []
  row-text row j few = ap (λ (found : List (List ℕ)). get_or found j []) (sym (row-filled row few)) ∙ more-texts row (n - length row) j

  text-there : (rows : List (List (List ℕ))) (i j : ℕ) → longest_row_length rows ≤ n → get_or (get_or (evened n rows) i []) j [] ≡ get_or (get_or rows i []) j []
  text-there [] i j few = refl
  text-there (row ∷ rows) zero j few = row-text row j (omega (arith, few))
  text-there (row ∷ rows) (suc i) j few = text-there rows i j (omega (arith, few))

  pub texts-same : (rows : List (List (List ℕ))) → longest_row_length rows ≤ n → (p : Position) → text_at (evened n rows) p ≡ text_at rows p
  texts-same rows few p = text-there rows p.row p.col few

  -- ---- as many in each row

  pub long-evened : (rows : List (List (List ℕ))) → AreRowsOfLength n (evened n rows)
  long-evened [] = tt
  long-evened (row ∷ rows) = (length-evened_row row n, long-evened rows)

  within : (rows : List (List (List ℕ))) → longest_row_length (evened n rows) ≤ n
  within [] = omega arith
  within (row ∷ rows) = let here = length-evened_row row n in omega (arith, here, within rows)

  count-evened : (rows : List (List (List ℕ))) → 0 < length rows → longest_row_length (evened n rows) ≡ n
  count-evened [] some = absurd (omega (arith, some))
  count-evened (row ∷ rows) some = let here = length-evened_row row n in omega (arith, here, within rows)

pub count-filled : (rows : List (List (List ℕ))) → longest_row_length (evened (longest_row_length rows) rows) ≡ longest_row_length rows
count-filled [] = refl
count-filled (row ∷ rows) = count-evened (longest_row_length (row ∷ rows)) (row ∷ rows) (omega arith)

pub filled-is : (rows : List (List (List ℕ))) → filled rows ≡ evened (longest_row_length rows) rows
filled-is rows = ap (λ n. map (filled_row n) rows) (longest-is rows) ∙ rows-filled (longest_row_length rows) rows (omega arith)

-- rows that are as long as one another stay
stays : (n : ℕ) (rows : List (List (List ℕ))) → AreRowsOfLength n rows → map (filled_row n) rows ≡ rows
stays n [] long = refl
stays n (row ∷ rows) long =
    let none : n - length row ≡ 0 = omega (arith, long.0) in
    ap (λ (first : List (List ℕ)). first ∷ map (filled_row n) rows) (ap (λ m. row ++ replicate m []) none ∙ append-nil row)
    ∙ ap (λ (rest : List (List (List ℕ))). row ∷ rest) (stays n rows long.1)

long-within : (n : ℕ) (rows : List (List (List ℕ))) → AreRowsOfLength n rows → longest rows ≤ n
long-within n [] long = omega arith
long-within n (row ∷ rows) long = omega (arith, long.0, long-within n rows long.1)

pub filled-even : (n : ℕ) (rows : List (List (List ℕ))) → AreRowsOfLength n rows → filled rows ≡ rows
filled-even n [] long = refl
filled-even n (row ∷ rows) long =
    let all : longest (row ∷ rows) ≡ n = omega (arith, long.0, long-within n rows long.1) in
    ap (λ m. map (filled_row m) (row ∷ rows)) all ∙ stays n (row ∷ rows) long
