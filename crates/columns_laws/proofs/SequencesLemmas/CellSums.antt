-- The cells of a text, each by what a function of its column and its text says.
use Rattle.std.proofs.Common.{◌≡◌, ◌==◌, ◌+◌, ◌-◌, ◌*◌, ◌≤◌, ℕ, suc, Bool, true, false, cond, List, [], ◌∷◌, ◌++◌, length, if◌then◌else◌, refl, ap, sym, subst, ◌∙◌, arith}
use Rattle.std.specs.List.{AllByRecursion}
use Rattle.std.proofs.lemmas.Bool.Decides.{nat_tests}
use Rattle.ansi_scan.specs.Pieces.{pieces}
use Rattle.ansi_scan.specs.Sequences.{NoneBroken}
use Rattle.ansi_str.specs.Parts.{from_place, through_place}
use Rattle.ansi_str.specs.StyledText.{strip}
use Rattle.ansi_str_search.proofs.PiecesAtPlaces.{from-none}
use Rattle.ansi_str_search.proofs.PlaceSums.{from-from}
use Rattle.columns_run.specs.Rows.{cell_parts, line_feed, tab}
use Rattle.columns_run.proofs.Bounds.{cells_from, cells_from-start, part_of}
use Rattle.columns_laws.proofs.SequencesLemmas.SequenceCounts.{taken-apart, taken_by}

-- sums over cells, by column
abbrev pub row_sum : (ℕ → List ℕ → ℕ) → ℕ → List (List ℕ) → ℕ
row_sum f column [] = 0
row_sum f column (cell ∷ cells) = f column cell + row_sum f (column + 1) cells

abbrev pub rows_sum : (ℕ → List ℕ → ℕ) → List (List (List ℕ)) → ℕ
rows_sum f [] = 0
rows_sum f (row ∷ rows) = row_sum f 0 row + rows_sum f rows

row-more : (f : ℕ → List ℕ → ℕ) (column : ℕ) (row : List (List ℕ)) (cell : List ℕ) → row_sum f column (row ++ cell ∷ []) ≡ row_sum f column row + f (column + length row) cell
row-more f column [] cell = let same : column + 0 ≡ column = omega arith in omega (arith, ap (λ (k : ℕ). f k cell) same)
row-more f column (first ∷ row) cell =
    let same : column + 1 + length row ≡ column + suc (length row) = omega arith in
    omega (arith, row-more f (column + 1) row cell, ap (λ (k : ℕ). f k cell) same)

-- the last of some elements, and those before it
pub all-front : {A : Type 0} (P : A → Type 0) (xs : List A) (x : A) → AllByRecursion P (xs ++ x ∷ []) → AllByRecursion P xs × P x
all-front P [] x all = (tt, all.0)
all-front P (y ∷ ys) x all = let rest = all-front P ys x all.1 in ((all.0, rest.0), rest.1)

module _ (text : List ℕ) (whole : NoneBroken (pieces text)) (Good : List ℕ → Type 0) (f m : ℕ → List ℕ → ℕ)
    (each : (column a b : ℕ) → a ≤ b → Good (part_of text whole a b) → f column (part_of text whole a b) ≤ taken_by (through_place (b - a) (from_place a (pieces text))) + 243 * m column (part_of text whole a b)) where
  abbrev behind : ℕ → ℕ
  behind n = taken_by (from_place n (pieces text))

  abbrev AreGood : List (List (List ℕ)) → Type 0
  AreGood rows = AllByRecursion (AllByRecursion Good) rows

  one-cell : (column start place : ℕ) → start ≤ place → Good (part_of text whole start place)
      → f column (part_of text whole start place) + behind (place + 1) ≤ behind start + 243 * m column (part_of text whole start place)
  one-cell column start place ordered good =
      let n = place - start in
      let sum : start + (n + 1) ≡ place + 1 = omega (arith, ordered) in
      omega (arith, each column start place ordered good, taken-apart n (from_place start (pieces text)), ap taken_by (sym (from-from start (n + 1) (pieces text)) ∙ ap (λ (k : ℕ). from_place k (pieces text)) sum))

  with-cell : (row : List (List ℕ)) (start place : ℕ) → start ≤ place → Good (part_of text whole start place)
      → row_sum f 0 (row ++ part_of text whole start place ∷ []) + behind (place + 1) + 243 * row_sum m 0 row ≤ row_sum f 0 row + behind start + 243 * row_sum m 0 (row ++ part_of text whole start place ∷ [])
  with-cell row start place ordered good =
      let cell = part_of text whole start place in
      omega (arith, row-more f 0 row cell, row-more m 0 row cell, one-cell (0 + length row) start place ordered good)

  -- the cells of a row that have ended are in the first row that comes
  front-good : (row : List (List ℕ)) (start place : ℕ) (bs : List ℕ) → AreGood (cells_from (part_of text whole) row start place bs) → AllByRecursion Good row
  front-good row start place [] all = by row (length row + (place - start) == 0) refl all
    where
      by : (found : List (List ℕ)) (b : Bool) → (length found + (place - start) == 0) ≡ b → AreGood (if b then [] else (found ++ part_of text whole start place ∷ []) ∷ []) → AllByRecursion Good found
      by [] b e all = tt
      by (first ∷ others) true e all = let no : length (first ∷ others) ≡ 0 = grind (arith, nat_tests, e) in absurd (omega (arith, no))
      by found false e all = (all-front Good found (part_of text whole start place) all.0).0
  front-good row start place (b ∷ bs) all =
      by (b == line_feed) (b == tab) (λ row start. front-good row start (place + 1) bs) all
    where
      cell : List ℕ
      cell = part_of text whole start place

      next : List (List ℕ) → ℕ → List (List (List ℕ))
      next row start = cells_from (part_of text whole) row start (place + 1) bs

      by : (is_feed is_tab : Bool) → ((row : List (List ℕ)) (start : ℕ) → AreGood (next row start) → AllByRecursion Good row)
          → AreGood (cond is_feed ((row ++ cell ∷ []) ∷ next [] (place + 1)) (cond is_tab (next (row ++ cell ∷ []) (place + 1)) (next row start))) → AllByRecursion Good row
      by true is_tab more all = (all-front Good row cell all.0).0
      by false true more all = (all-front Good row cell (more (row ++ cell ∷ []) (place + 1) all)).0
      by false false more all = more row start all

  cells-by : (row : List (List ℕ)) (start place : ℕ) (bs : List ℕ) → start ≤ place → AreGood (cells_from (part_of text whole) row start place bs)
      → rows_sum f (cells_from (part_of text whole) row start place bs) + 243 * row_sum m 0 row ≤ row_sum f 0 row + behind start + 243 * rows_sum m (cells_from (part_of text whole) row start place bs)
  cells-by row start place [] ordered all = by row (length row + (place - start) == 0) refl all
    where
      cell : List ℕ
      cell = part_of text whole start place

      by : (found : List (List ℕ)) (b : Bool) → (length found + (place - start) == 0) ≡ b → AreGood (if b then [] else (found ++ cell ∷ []) ∷ [])
          → rows_sum f (if b then [] else (found ++ cell ∷ []) ∷ []) + 243 * row_sum m 0 found ≤ row_sum f 0 found + behind start + 243 * rows_sum m (if b then [] else (found ++ cell ∷ []) ∷ [])
      by [] true e all = omega arith
      by (first ∷ others) true e all = let no : length (first ∷ others) ≡ 0 = grind (arith, nat_tests, e) in absurd (omega (arith, no))
      by found false e all = omega (arith, with-cell found start place ordered (all-front Good found cell all.0).1)
  cells-by row start place (b ∷ bs) ordered all =
      by (b == line_feed) (b == tab) (λ row start later. cells-by row start (place + 1) bs later) (λ row start. front-good row start (place + 1) bs) all
    where
      cell : List ℕ
      cell = part_of text whole start place

      next : List (List ℕ) → ℕ → List (List (List ℕ))
      next row start = cells_from (part_of text whole) row start (place + 1) bs

      by : (is_feed is_tab : Bool)
          → ((row : List (List ℕ)) (start : ℕ) → start ≤ place + 1 → AreGood (next row start) → rows_sum f (next row start) + 243 * row_sum m 0 row ≤ row_sum f 0 row + behind start + 243 * rows_sum m (next row start))
          → ((row : List (List ℕ)) (start : ℕ) → AreGood (next row start) → AllByRecursion Good row)
          → AreGood (cond is_feed ((row ++ cell ∷ []) ∷ next [] (place + 1)) (cond is_tab (next (row ++ cell ∷ []) (place + 1)) (next row start)))
          → rows_sum f (cond is_feed ((row ++ cell ∷ []) ∷ next [] (place + 1)) (cond is_tab (next (row ++ cell ∷ []) (place + 1)) (next row start))) + 243 * row_sum m 0 row
          ≤ row_sum f 0 row + behind start + 243 * rows_sum m (cond is_feed ((row ++ cell ∷ []) ∷ next [] (place + 1)) (cond is_tab (next (row ++ cell ∷ []) (place + 1)) (next row start)))
      by true is_tab more front all =
          let later : place + 1 ≤ place + 1 = omega arith in
          omega (arith, more [] (place + 1) later all.1, with-cell row start place ordered (all-front Good row cell all.0).1)
      by false true more front all =
          let later : place + 1 ≤ place + 1 = omega arith in
          omega (arith, more (row ++ cell ∷ []) (place + 1) later all, with-cell row start place ordered (all-front Good row cell (front (row ++ cell ∷ []) (place + 1) all)).1)
      by false false more front all =
          let later : start ≤ place + 1 = omega (arith, ordered) in
          more row start later all

  -- all cells
  pub all-by : AreGood (cell_parts text) → rows_sum f (cell_parts text) ≤ taken_by (pieces text) + 243 * rows_sum m (cell_parts text)
  all-by =
      let low : 0 ≤ 0 = omega arith in
      subst (λ (rows : List (List (List ℕ))). AreGood rows → rows_sum f rows ≤ taken_by (pieces text) + 243 * rows_sum m rows) (cells_from-start text whole)
      (λ all. omega (arith, cells-by [] 0 0 (strip (pieces text)) low all, ap taken_by (from-none (pieces text))))
