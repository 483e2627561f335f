-- Rows that are filled are equally long.
use Rattle.std.proofs.Common.{◌≡◌, ◌∙◌, sym, ap, refl, ℕ, ◌+◌, ◌-◌, ◌≤◌, List, [], ◌∷◌, ◌++◌, Vec, append-nil, arith, length, map, max, replicate, vec_items, vec_len}
use Rattle.std.proofs.lemmas.List.{length-append, length-map, length-replicate}
use Rattle.std.proofs.lemmas.List.Elements.{All-cons, All-head, All-map, All-nil, All-same, All-tail, All-weaker}
use Rattle.std.specs.List.{All}
use Rattle.grid_records.specs.RecordRows.Sources.{AreEquallyLong, columns_of}
use Rattle.grid_records_traits.specs.Sources.{texts_of_rows}
use Rattle.tabled_text.proofs.Longest.{longest_mapped}
use Rattle.tabled_text.specs.Rows.{filled, filled_row, longest, row_items}

at_most_longest : (rows : List (List (List ℕ))) → All (λ row. length row ≤ longest rows) rows
at_most_longest [] = All-nil (λ (row : List (List ℕ)). length row ≤ 0)
at_most_longest (row ∷ rows) =
    let most = max (length row) (longest rows) in
    let first : length row ≤ most = omega arith in
    All-cons (λ (row : List (List ℕ)). length row ≤ most) row rows first (All-weaker (λ (row : List (List ℕ)). length row ≤ longest rows) (λ row. length row ≤ most) (λ row less. omega arith) rows (at_most_longest rows))

filled_even : (rows : List (List (List ℕ))) → All (λ row. length row ≡ longest rows) (filled rows)
filled_even rows =
    let n = longest rows in
    All-map (λ (row : List (List ℕ)). length row ≡ n) (filled_row n) rows
    (All-weaker (λ (row : List (List ℕ)). length row ≤ n) (λ row. length (filled_row n row) ≡ n)
    (λ row less. length-append row (replicate (n - length row) []) ∙ ap (λ m. length row + m) (length-replicate (n - length row) []) ∙ omega arith) rows (at_most_longest rows))

lengths : {T Z : Type 0} (text : T → List ℕ) (cells : List (Vec T Z)) (n : ℕ) → All (λ row. length row ≡ n) (texts_of_rows text cells) → All (λ row. vec_len row ≡ n) cells
lengths text [] n all = All-nil (λ (row : Vec _ _). vec_len row ≡ n)
lengths text (row ∷ cells) n all =
    let texts = λ (row : Vec _ _). map text (vec_items row) in
    All-cons (λ (row : Vec _ _). vec_len row ≡ n) row cells
    (row.ok.0 ∙ sym (length-map (vec_items row) text) ∙ All-head (λ (row : List (List ℕ)). length row ≡ n) (texts row) (texts_of_rows text cells) all)
    (lengths text cells n (All-tail (λ (row : List (List ℕ)). length row ≡ n) (texts row) (texts_of_rows text cells) all))

pub even_cells : {T Z : Type 0} (text : T → List ℕ) (cells : List (Vec T Z)) (n : ℕ) → All (λ row. length row ≡ n) (texts_of_rows text cells) → AreEquallyLong cells
even_cells text [] n all = All-nil (λ (row : Vec _ _). vec_len row ≡ 0)
even_cells text (row ∷ cells) n all =
    let long = lengths text (row ∷ cells) n all in
    let first : vec_len row ≡ n = All-head (λ (row : Vec _ _). vec_len row ≡ n) row cells long in
    All-weaker (λ (other : Vec _ _). vec_len other ≡ n) (λ other. vec_len other ≡ vec_len row) (λ other e. e ∙ sym first) (row ∷ cells) long

-- cells of filled rows
pub even_filled : {T Z : Type 0} (text : T → List ℕ) (cells : List (Vec T Z)) (rows : List (List (List ℕ))) → texts_of_rows text cells ≡ filled rows → AreEquallyLong cells
even_filled text cells rows same =
    even_cells text cells (longest rows) (All-same (λ (row : List (List ℕ)). length row ≡ longest rows) (texts_of_rows text cells) (filled rows) same (filled_even rows))

-- cells of texts that are equally many in each row
pub even_rows : {T Z : Type 0} (text : T → List ℕ) (cells : List (Vec T Z)) (rows : List (List (List ℕ))) (n : ℕ) → texts_of_rows text cells ≡ rows → All (λ row. length row ≡ n) rows → AreEquallyLong cells
even_rows text cells rows n same wide = even_cells text cells n (All-same (λ (row : List (List ℕ)). length row ≡ n) (texts_of_rows text cells) rows same wide)

-- ---- rows that are equally long are filled already

longest-even : (first : List (List ℕ)) (rows : List (List (List ℕ))) (n : ℕ) → All (λ row. length row ≡ n) (first ∷ rows) → longest (first ∷ rows) ≡ n
longest-even first [] n all =
    let here = All-head (λ (row : List (List ℕ)). length row ≡ n) first [] all in
    omega (arith, here)
longest-even first (second ∷ rows) n all =
    let here = All-head (λ (row : List (List ℕ)). length row ≡ n) first (second ∷ rows) all in
    let others = longest-even second rows n (All-tail (λ (row : List (List ℕ)). length row ≡ n) first (second ∷ rows) all) in
    omega (arith, here, others)

full-row : (n : ℕ) (row : List (List ℕ)) → length row ≡ n → filled_row n row ≡ row
full-row n row long =
    let none : n - length row ≡ 0 = omega (arith, long) in
    ap (λ k. row ++ replicate k []) none ∙ append-nil row

full-rows : (n : ℕ) (rows : List (List (List ℕ))) → All (λ row. length row ≡ n) rows → map (filled_row n) rows ≡ rows
full-rows n [] all = refl
full-rows n (row ∷ rows) all =
    ap (λ (it : List (List ℕ)). it ∷ map (filled_row n) rows) (full-row n row (All-head (λ (row : List (List ℕ)). length row ≡ n) row rows all))
    ∙ ap (λ (its : List (List (List ℕ))). row ∷ its) (full-rows n rows (All-tail (λ (row : List (List ℕ)). length row ≡ n) row rows all))

same-filled : (rows : List (List (List ℕ))) (n : ℕ) → All (λ row. length row ≡ n) rows → filled rows ≡ rows
same-filled [] n all = refl
same-filled (row ∷ rows) n all =
    ap (λ k. map (filled_row k) (row ∷ rows)) (longest-even row rows n all) ∙ full-rows n (row ∷ rows) all

pub filled-even : {T Z : Type 0} (text : T → List ℕ) (cells : List (Vec T Z)) → AreEquallyLong cells → filled (texts_of_rows text cells) ≡ texts_of_rows text cells
filled-even text cells long =
    let n = columns_of cells in
    same-filled (texts_of_rows text cells) n
    (All-map (λ (row : List (List ℕ)). length row ≡ n) (λ (row : Vec _ _). map text (vec_items row)) cells
    (All-weaker (λ (row : Vec _ _). vec_len row ≡ n) (λ row. length (map text (vec_items row)) ≡ n) (λ row is. length-map (vec_items row) text ∙ sym row.ok.0 ∙ is) cells long))

-- ---- the longest of rows of cells, by their texts

pub longest_texts : {T Z : Type 0} (text : T → List ℕ) (rows : List (Vec T Z)) → longest (texts_of_rows text rows) ≡ longest (row_items rows)
longest_texts text rows = longest_mapped text rows
