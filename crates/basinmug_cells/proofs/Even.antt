-- Rows that are as long as the longest.
use Rattle.std.proofs.Common.{◌≡◌, ◌∙◌, ℕ, zero, suc, ◌-◌, ◌≤◌, List, [], ◌∷◌, ◌++◌, ap, ap₂, arith, get_or, inl, inr, length, map, refl, replicate, sym}
use Rattle.std.proofs.lemmas.Bool.{cases_lt}
use Rattle.std.proofs.lemmas.List.{get_or-append_right, get_or_append_left, get_or_past, take_all}
use Rattle.grid_config_values.specs.declared.Position.{Position}
use Rattle.grid_records_traits.specs.Rows.{evened, evened_row, text_at}
use Rattle.grid_records_traits.proofs.EvenedRows.{evened-twice}
use Rattle.grid_records.proofs.RowsLemmas.Peeks.{all_rows}
use Rattle.tabled_text.specs.Rows.{filled, filled_row, longest}
use Rattle.basinmug_cells.specs.Even.{rows_from}

-- ---- a text of rows that are filled up

empties : (count k : ℕ) → get_or (replicate count (let none : List ℕ = [] in none)) k [] ≡ []
empties zero zero = refl
empties zero (suc k) = refl
empties (suc count) zero = refl
empties (suc count) (suc k) = empties count k

text-filled_row : (count : ℕ) (row : List (List ℕ)) (k : ℕ) → get_or (filled_row count row) k [] ≡ get_or row k []
text-filled_row count row k =
    elim (cases_lt k (length row)) [
      | inl inside ↦ get_or_append_left row (replicate (count - length row) []) [] k inside
      | inr past ↦
          get_or-append_right row (replicate (count - length row) []) (length row) k [] refl past ∙ empties (count - length row) (k - length row) ∙ sym (get_or_past row k [] past)
    ]

text-filled_rows : (count : ℕ) (rows : List (List (List ℕ))) (i k : ℕ) → get_or (get_or (map (filled_row count) rows) i []) k [] ≡ get_or (get_or rows i []) k []
text-filled_rows count [] zero k = refl
text-filled_rows count [] (suc i) k = refl
text-filled_rows count (row ∷ rows) zero k = text-filled_row count row k
text-filled_rows count (row ∷ rows) (suc i) k = text-filled_rows count rows i k

pub text-filled : (rows : List (List (List ℕ))) (pos : Position) → text_at (filled rows) pos ≡ text_at rows pos
text-filled rows pos = text-filled_rows (longest rows) rows pos.row pos.col

-- ---- filled rows are evened

row-evened : (count : ℕ) (row : List (List ℕ)) → length row ≤ count → filled_row count row ≡ evened_row count row
row-evened count row fits = ap (λ (texts : List (List ℕ)). texts ++ replicate (count - length row) []) (sym (take_all count row fits))

rows-evened : (count : ℕ) (rows : List (List (List ℕ))) → longest rows ≤ count → map (filled_row count) rows ≡ evened count rows
rows-evened count [] fits = refl
rows-evened count (row ∷ rows) fits =
    ap₂ (λ (r : List (List ℕ)) (rs : List (List (List ℕ))). r ∷ rs) (row-evened count row (omega (arith, fits))) (rows-evened count rows (omega (arith, fits)))

pub filled-evened : (rows : List (List (List ℕ))) → filled rows ≡ evened (longest rows) rows
filled-evened rows = rows-evened (longest rows) rows (omega arith)

-- ---- rows that are read

pub all-evened : (rows : List (List (List ℕ))) (columns row left : ℕ) → row ≡ 0 → left ≡ length rows → rows_from rows columns row left ≡ evened columns rows
all-evened rows columns row left first all = ap (λ k. rows_from rows columns k left) first ∙ all_rows rows columns left all

pub all-filled : (rows : List (List (List ℕ))) (columns row left : ℕ) → columns ≡ longest rows → row ≡ 0 → left ≡ length rows → rows_from rows columns row left ≡ evened columns (filled rows)
all-filled rows columns row left wide first all =
    all-evened rows columns row left first all
    ∙ sym (evened-twice rows columns)
    ∙ ap (evened columns) (ap (λ n. evened n rows) wide ∙ sym (filled-evened rows))
