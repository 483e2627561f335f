-- Rows by where they begin: their cells, looked up.
use Rattle.std.proofs.Common.{◌≡◌, ℕ, zero, suc, ◌+◌, ◌-◌, ◌<◌, ◌≤◌, All, List, [], ◌∷◌, map, length, sum, take, drop, get_or, refl, ap, sym, subst, ◌∙◌, arith}
use Rattle.std.specs.Prelude.{slice_range}
use Rattle.std.proofs.lemmas.List.{drop-drop, ext_get_or}
use Rattle.std.proofs.lemmas.List.Elements.{All-drop, All-head, All-tail, All-take}
use Rattle.std.proofs.lemmas.List.Sums.{sum_by-cons}
use Rattle.grid_config_values.specs.declared.position.Position.{Position}
use Rattle.grid_records_traits.specs.Cells.{IsLineAt}
use Rattle.grid_records_traits.specs.Rows.{row_at, text_at}
use Rattle.grid_records_traits.specs.SingleLines.{IsSingleLine}
use Rattle.papergrid_picture.proofs.Shown.{get_or-map}
use Rattle.columns_table.specs.Rows.{split_by_lengths}
use Rattle.columns_table.specs.Records.{Ascend, IsSingleLineCell, sliced_at, placed_texts, starts_from}
use Rattle.columns_table.specs.declared.cells.LineCell.{LineCell}
use Rattle.columns_table.proofs.Records.{empty_single_line, only_line}

abbrev text_of : LineCell → List ℕ
text_of cell = cell.text.now

-- ---- one row

pub placed-row : {X : Type 0} (starts : List ℕ) (xs : List X) (i : ℕ) → i < length starts
    → get_or (sliced_at starts xs) i [] ≡ slice_range xs (get_or starts i 0) (get_or starts (i + 1) (length xs))
placed-row [] xs i below = absurd (omega arith)
placed-row (start ∷ starts) xs zero below = refl
placed-row (start ∷ starts) xs (suc i) below =
    let next : suc (i + 1) ≡ suc i + 1 = omega arith in
    placed-row starts xs i (omega arith) ∙ ap (λ k. slice_range xs (get_or starts i 0) (get_or (start ∷ starts) k (length xs))) next

pub placed-none : {X : Type 0} (starts : List ℕ) (xs : List X) (i : ℕ) → length starts ≤ i → get_or (sliced_at starts xs) i [] ≡ []
placed-none {X} [] xs i past = none i where
  none : (i : ℕ) → get_or {A = List X} [] i [] ≡ []
  none zero = refl
  none (suc i) = refl
placed-none (start ∷ starts) xs zero past = absurd (omega arith)
placed-none (start ∷ starts) xs (suc i) past = placed-none starts xs i (omega arith)

-- ---- one cell

past-end : {A : Type 0} (xs : List A) (i : ℕ) (d : A) → length xs ≤ i → get_or xs i d ≡ d
past-end [] zero d past = refl
past-end [] (suc i) d past = refl
past-end (x ∷ xs) zero d past = absurd (omega arith)
past-end (x ∷ xs) (suc i) d past = past-end xs i d (omega arith)

pub row-texts : (starts : List ℕ) (cells : List LineCell) (i : ℕ) → row_at (placed_texts starts cells) i ≡ map text_of (get_or (sliced_at starts cells) i [])
row-texts starts cells i = get_or-map (map text_of) (sliced_at starts cells) i []

module _ (starts : List ℕ) (cells : List LineCell) (pos : Position) where
  pub row-text : text_at (placed_texts starts cells) pos ≡ get_or (map text_of (get_or (sliced_at starts cells) pos.row [])) pos.col []
  row-text = ap (λ row. get_or row pos.col []) (get_or-map (map text_of) (sliced_at starts cells) pos.row [])

-- what is true of each cell is true of each in a row
pub row-keeps : (P : LineCell → Type 0) (starts : List ℕ) (cells : List LineCell) (i : ℕ) → All P cells → All P (get_or (sliced_at starts cells) i [])
row-keeps P [] cells i all = none i where
  none : (i : ℕ) → All P (get_or {A = List LineCell} [] i [])
  none zero = λ k d below. absurd (omega arith)
  none (suc i) = λ k d below. absurd (omega arith)
row-keeps P (start ∷ starts) cells zero all = All-take P (get_or starts 0 (length cells) - start) (drop start cells) (All-drop P start cells all)
row-keeps P (start ∷ starts) cells (suc i) all = row-keeps P starts cells i all

single_in_row : (row : List LineCell) (j : ℕ) → All IsSingleLineCell row → (width : ℕ) × IsSingleLine (get_or (map text_of row) j []) width
single_in_row [] zero all = (0, empty_single_line)
single_in_row [] (suc j) all = (0, empty_single_line)
single_in_row (cell ∷ row) zero all = (cell.width, All-head IsSingleLineCell cell row all)
single_in_row (cell ∷ row) (suc j) all = single_in_row row j (All-tail IsSingleLineCell cell row all)

pub single_line_each : (starts : List ℕ) (cells : List LineCell) (pos : Position) → All IsSingleLineCell cells → (width : ℕ) × IsSingleLine (text_at (placed_texts starts cells) pos) width
single_line_each starts cells pos all =
    subst (λ text. (width : ℕ) × IsSingleLine text width) (sym (row-text starts cells pos)) (single_in_row (get_or (sliced_at starts cells) pos.row []) pos.col (row-keeps IsSingleLineCell starts cells pos.row all))

-- a text that is a single line has no other
pub no-line : (text : List ℕ) (width index : ℕ) → 0 < index → IsSingleLine text width → IsLineAt text index []
no-line text width index behind single = λ ps lines of_text are.
    sym (ap (λ found. get_or found index []) (only_line text width single ps lines of_text are) ∙ past-end (text ∷ []) index [] (omega (arith, behind)))

pub first-line : (text bytes : List ℕ) (width index : ℕ) → index ≡ 0 → bytes ≡ text → IsSingleLine text width → IsLineAt text index bytes
first-line text bytes width index first same single = λ ps lines of_text are.
    same ∙ (single.2 ps lines of_text are ∙ ap (λ k. get_or lines k []) (sym first))

-- ---- rows by their counts

length-starts : (at : ℕ) (counts : List ℕ) → length (starts_from at counts) ≡ length counts
length-starts at [] = refl
length-starts at (n ∷ ns) = ap suc (length-starts (at + n) ns)

pub length-placed : (starts : List ℕ) (cells : List LineCell) → length (placed_texts starts cells) ≡ length starts
length-placed [] cells = refl
length-placed (start ∷ starts) cells = ap suc (length-placed starts cells)

pub placed-split : {X : Type 0} (at : ℕ) (counts : List ℕ) (xs : List X) → at + sum counts ≡ length xs → sliced_at (starts_from at counts) xs ≡ split_by_lengths counts (drop at xs)
placed-split at [] xs whole = refl
placed-split at (n ∷ []) xs whole =
    let size : length xs - at ≡ n = omega (arith, whole, sum_by-cons (λ k. k) n []) in
    ap (λ m. take m (drop at xs) ∷ []) size
placed-split at (n ∷ m ∷ ns) xs whole =
    let size : at + n - at ≡ n = omega arith in
    let rest : at + n + sum (m ∷ ns) ≡ length xs = omega (arith, whole, sum_by-cons (λ k. k) n (m ∷ ns)) in
    ap (λ k. take k (drop at xs) ∷ sliced_at (starts_from (at + n) (m ∷ ns)) xs) size
    ∙ ap (λ rows. take n (drop at xs) ∷ rows) (placed-split (at + n) (m ∷ ns) xs rest ∙ ap (split_by_lengths (m ∷ ns)) (sym (drop-drop n at xs)))

-- ---- counts put into starts

pub start-at : (at : ℕ) (counts : List ℕ) (k : ℕ) → k < length counts → get_or (starts_from at counts) k 0 ≡ at + sum (take k counts)
start-at at [] k below = absurd (omega arith)
start-at at (n ∷ ns) zero below = omega arith
start-at at (n ∷ ns) (suc k) below =
    let rest = start-at (at + n) ns k (omega arith) in
    let sums : sum (n ∷ take k ns) ≡ n + sum (take k ns) = sum_by-cons (λ m. m) n (take k ns) in
    omega (arith, rest, sums)

pub starts-are : (counts starts : List ℕ) → length starts ≡ length counts → ((k : ℕ) → k < length counts → get_or starts k 0 ≡ sum (take k counts)) → starts ≡ starts_from 0 counts
starts-are counts starts long each =
    ext_get_or 0 starts (starts_from 0 counts) (long ∙ sym (length-starts 0 counts))
    (λ k below. let inside : k < length counts = omega (arith, below, long) in each k inside ∙ sum_from (sum (take k counts)) ∙ sym (start-at 0 counts k inside))
  where
    sum_from : (n : ℕ) → n ≡ 0 + n
    sum_from n = omega arith

-- the pieces of a whole list
ascend_from : (at : ℕ) (counts : List ℕ) (end : ℕ) → at + sum counts ≡ end → Ascend (starts_from at counts) end
ascend_from at [] end whole = λ k below. absurd (omega (arith, below))
ascend_from at (n ∷ []) end whole = λ k below. step k below where
  step : (k : ℕ) → k < length (starts_from at (n ∷ [])) → (get_or (at ∷ []) k 0 ≤ get_or (at ∷ []) (k + 1) end) × (get_or (at ∷ []) (k + 1) end ≤ end)
  step zero below = (omega (arith, whole), omega arith)
  step (suc k) below = absurd (omega (arith, below))
ascend_from at (n ∷ m ∷ ns) end whole = λ k below. step (ascend_from (at + n) (m ∷ ns) end (omega (arith, whole, sum_by-cons (λ k. k) n (m ∷ ns)))) k below where
  rest : at + n + sum (m ∷ ns) ≡ end
  rest = omega (arith, whole, sum_by-cons (λ k. k) n (m ∷ ns))

  step : Ascend (starts_from (at + n) (m ∷ ns)) end → (k : ℕ) → k < length (starts_from at (n ∷ m ∷ ns))
      → (get_or (starts_from at (n ∷ m ∷ ns)) k 0 ≤ get_or (starts_from at (n ∷ m ∷ ns)) (k + 1) end) × (get_or (starts_from at (n ∷ m ∷ ns)) (k + 1) end ≤ end)
  step behind zero below = (omega arith, omega (arith, rest))
  step behind (suc k) below =
      let next : suc (k + 1) ≡ suc k + 1 = omega arith in
      let here : get_or (starts_from at (n ∷ m ∷ ns)) (suc (k + 1)) end ≡ get_or (starts_from at (n ∷ m ∷ ns)) (suc k + 1) end = ap (λ i. get_or (starts_from at (n ∷ m ∷ ns)) i end) next in
      let found = behind k (omega (arith, below)) in
      (omega (arith, found.0, here), omega (arith, found.1, here))

pub ascend : (counts : List ℕ) (end : ℕ) → sum counts ≡ end → Ascend (starts_from 0 counts) end
ascend counts end whole = ascend_from 0 counts end (omega (arith, whole))
