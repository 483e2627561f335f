-- Rows that are moved in a list: those behind rows that are removed, or behind a row that comes.
use Rattle.std.proofs.Common.{◌≡◌, ◌∙◌, ℕ, zero, suc, ◌-◌, ◌<◌, ◌≤◌, List, [], ◌∷◌, ◌++◌, ap, ap₂, arith, drop, get_or, length, map, refl, sym, take}
use Rattle.std.specs.Prelude.{slice_range}
use Rattle.std.proofs.lemmas.List.{get_or-take, length-take, take-append-drop}
use Rattle.basinmug_cells.specs.Ends.{Ascend, rows_by, start_at}
use Rattle.basinmug_cells.proofs.Ends.{ascend-cons, ascend-nil, ascend-tail, end-before, rows-longer, rows-take}

-- ---- ends in parts

pub start-take : (start : ℕ) (ends : List ℕ) (row : ℕ) → row ≤ length ends → start_at start (take row ends) (length (take row ends)) ≡ start_at start ends row
start-take start ends zero below = refl
start-take start [] (suc row) below = absurd (omega (arith, below))
start-take start (end ∷ ends) (suc row) below = start-take end ends row (omega (arith, below))

pub start-drop : (start : ℕ) (ends : List ℕ) (row : ℕ) → row ≤ length ends → start_at (start_at start ends row) (drop row ends) (length (drop row ends)) ≡ start_at start ends (length ends)
start-drop start ends zero below = refl
start-drop start [] (suc row) below = absurd (omega (arith, below))
start-drop start (end ∷ ends) (suc row) below = start-drop end ends row (omega (arith, below))

pub start-append : (start : ℕ) (ends more : List ℕ) → start_at start (ends ++ more) (length (ends ++ more)) ≡ start_at (start_at start ends (length ends)) more (length more)
start-append start [] more = refl
start-append start (end ∷ ends) more = start-append end ends more

pub ascend-take : (start : ℕ) (ends : List ℕ) (count row : ℕ) → Ascend start ends count → row ≤ length ends → Ascend start (take row ends) (start_at start ends row)
ascend-take start ends count zero asc below = ascend-nil start start (omega arith)
ascend-take start [] count (suc row) asc below = absurd (omega (arith, below))
ascend-take start (end ∷ ends) count (suc row) asc below =
    ascend-cons start end (take row ends) (start_at end ends row) (asc.ascend 0 (omega arith)) (ascend-take end ends count row (ascend-tail start end ends count asc) (omega (arith, below)))

pub ascend-drop : (start : ℕ) (ends : List ℕ) (count row : ℕ) → Ascend start ends count → row ≤ length ends → Ascend (start_at start ends row) (drop row ends) count
ascend-drop start ends count zero asc below = asc
ascend-drop start [] count (suc row) asc below = absurd (omega (arith, below))
ascend-drop start (end ∷ ends) count (suc row) asc below = ascend-drop end ends count row (ascend-tail start end ends count asc) (omega (arith, below))

pub ascend-append : (start : ℕ) (ends more : List ℕ) (count between : ℕ) → Ascend start ends between → Ascend (start_at start ends (length ends)) more count → Ascend start (ends ++ more) count
ascend-append start [] more count between asc rest = rest
ascend-append start (end ∷ ends) more count between asc rest =
    ascend-cons start end (ends ++ more) count (asc.ascend 0 (omega arith)) (ascend-append end ends more count between (ascend-tail start end ends between asc) rest)

module _ {X : Type 0} where
  pub rows-append : (start : ℕ) (ends more : List ℕ) (items : List X) → rows_by start (ends ++ more) items ≡ rows_by start ends items ++ rows_by (start_at start ends (length ends)) more items
  rows-append start [] more items = refl
  rows-append start (end ∷ ends) more items = ap (λ (rows : List (List X)). slice_range items start end ∷ rows) (rows-append end ends more items)

  -- the first rows, whatever is behind them
  pub rows-first : (start : ℕ) (ends : List ℕ) (count : ℕ) (items more : List X) (row : ℕ) → Ascend start ends count → row ≤ length ends → count ≤ length items
      → rows_by start (take row ends) (take (start_at start ends row) items ++ more) ≡ take row (rows_by start ends items)
  rows-first start ends count items more row asc below fits =
      let from = start_at start ends row in
      let long : length (take from items) ≡ from = omega (arith, length-take from items, asc.within row below, fits) in
      let each : (k : ℕ) → k < length (take row ends) → get_or (take row ends) k 0 ≤ length (take from items) =
      λ k inside.
      let first : k < row = omega (arith, inside, length-take row ends) in
      let same : get_or (take row ends) k 0 ≡ get_or ends k 0 = get_or-take row ends k 0 first in
      let before : get_or ends k 0 ≤ from = end-before start ends count k row asc first below in
      omega (arith, same, before, long) in
      rows-longer start (take row ends) (take from items) more each
      ∙ sym (rows-longer start (take row ends) (take from items) (drop from items) each)
      ∙ ap (rows_by start (take row ends)) (take-append-drop from items)
      ∙ sym (rows-take start ends items row)

  -- ---- where each item from `to` on has another place

  module _ (f : ℕ → ℕ) (to : ℕ) (items moved : List X) (len : (s e : ℕ) → to ≤ s → s ≤ e → f e - f s ≡ e - s) (same : (s : ℕ) → to ≤ s → drop (f s) moved ≡ drop s items) where
    pub rows-moved : (start : ℕ) (ends : List ℕ) (count : ℕ) → to ≤ start → Ascend start ends count → rows_by (f start) (map f ends) moved ≡ rows_by start ends items
    rows-moved start [] count behind asc = refl
    rows-moved start (end ∷ ends) count behind asc =
        let first : start ≤ end = asc.ascend 0 (omega arith) in
        ap₂ (λ (row : List X) (rows : List (List X)). row ∷ rows)
        (ap (λ n. take n (drop (f start) moved)) (len start end behind first) ∙ ap (take (end - start)) (same start behind))
        (rows-moved end ends count (omega (arith, behind, first)) (ascend-tail start end ends count asc))

module _ (f : ℕ → ℕ) where
  pub start-moved : (start : ℕ) (ends : List ℕ) → start_at (f start) (map f ends) (length (map f ends)) ≡ f (start_at start ends (length ends))
  start-moved start [] = refl
  start-moved start (end ∷ ends) = start-moved end ends

  pub ascend-moved : (start : ℕ) (ends : List ℕ) (count : ℕ) → ((s e : ℕ) → s ≤ e → f s ≤ f e) → Ascend start ends count → Ascend (f start) (map f ends) (f count)
  ascend-moved start [] count up asc = ascend-nil (f start) (f count) (up start count (asc.within 0 (omega arith)))
  ascend-moved start (end ∷ ends) count up asc =
      ascend-cons (f start) (f end) (map f ends) (f count) (up start end (asc.ascend 0 (omega arith))) (ascend-moved end ends count up (ascend-tail start end ends count asc))
