-- Texts that are fitted in their place are the texts that change one by one.
use Rattle.std.proofs.Common.{◌≡◌, ◌∙◌, ◌<◌, ◌≤◌, ◌+◌, ◌-◌, ap, ap₂, sym, refl, arith, add-one, ℕ, zero, suc, Bool, true, false, List, [], ◌∷◌, ◌++◌, Option, None, Some, get_or, get_or-set_same, length, map, max, replicate, slice_set}
use Rattle.std.specs.Prelude.{if◌then◌else◌, nat_lt, slice_index, unwrap_or}
use Rattle.std.proofs.lemmas.Bool.{le-ltb}
use Rattle.std.proofs.Math.Seq.{set-get_or, set-set}
use Rattle.grid_config_values.specs.Entities.{covered_positions}
use Rattle.grid_config_values.specs.declared.entity.Entity.TheVariants.{Global as EveryCell}
use Rattle.grid_config_values.specs.declared.position.Position.{Position}
use Rattle.grid_records_measure.specs.TextLines.{text_width}
use Rattle.grid_records_traits.specs.Rows.{row_at, text_at, with_text}
use Rattle.tabled_steps.specs.Changes.{changed_rows}
use Rattle.tabled_steps.specs.States.{column_count}
use Rattle.tabled_steps.proofs.ChangedTexts.{row-count, text-at, text-count}
use Rattle.tabled_text.specs.Rows.{filled, filled_row, longest}
use Rattle.basinmug_columns.proofs.Cells.{no-width}
use Rattle.basinmug_run.specs.Picture.EvenRows.{rows-even}
use Rattle.basinmug_run.specs.Picture.Fitting.{fitted, fitted_at, fitted_in, fitted_row, fitted_text, is_narrowed}

-- a text that takes its own place changes nothing
pub same-text : (rows : List (List (List ℕ))) (pos : Position) → with_text rows pos (text_at rows pos) ≡ rows
same-text rows pos = ap (slice_set rows pos.row) (set-get_or (row_at rows pos.row) pos.col []) ∙ set-get_or rows pos.row []

-- ---- elements that change one after the other

module _ {X : Type 0} (f : ℕ → X → X) where
  -- so many of the first are changed, and the others are as they were; the first has this number
  abbrev pub changed_front : ℕ → ℕ → List X → List X
  changed_front first count [] = []
  changed_front first zero (x ∷ xs) = x ∷ xs
  changed_front first (suc count) (x ∷ xs) = f first x ∷ changed_front (first + 1) count xs

  pub front-none : (first : ℕ) (xs : List X) → changed_front first 0 xs ≡ xs
  front-none first [] = refl
  front-none first (x ∷ xs) = refl

  pub front-length : (first count : ℕ) (xs : List X) → length (changed_front first count xs) ≡ length xs
  front-length first count [] = refl
  front-length first zero (x ∷ xs) = refl
  front-length first (suc count) (x ∷ xs) = ap (λ (n : ℕ). suc n) (front-length (first + 1) count xs)

  -- the next is as it was
  pub front-at : (first count : ℕ) (xs : List X) (d : X) → get_or (changed_front first count xs) count d ≡ get_or xs count d
  front-at first count [] d = refl
  front-at first zero (x ∷ xs) d = refl
  front-at first (suc count) (x ∷ xs) d = front-at (first + 1) count xs d

  -- and is changed then
  front-more : (first count : ℕ) (xs : List X) (d : X) → count < length xs → slice_set (changed_front first count xs) count (f (first + count) (get_or xs count d)) ≡ changed_front first (suc count) xs
  front-more first count [] d inside = absurd (omega (arith, inside))
  front-more first zero (x ∷ xs) d inside =
      let here : first + 0 ≡ first = omega arith in
      ap (λ (n : ℕ). f n x ∷ xs) here ∙ ap (λ (rest : List X). f first x ∷ rest) (sym (front-none (first + 1) xs))
  front-more first (suc count) (x ∷ xs) d inside =
      let there : first + suc count ≡ first + 1 + count = omega arith in
      ap (λ (n : ℕ). f first x ∷ slice_set (changed_front (first + 1) count xs) count (f n (get_or xs count d))) there
      ∙ ap (λ (rest : List X). f first x ∷ rest) (front-more (first + 1) count xs d (omega (arith, inside)))

  pub front-next : (count : ℕ) (xs : List X) (d : X) → count < length xs → slice_set (changed_front 0 count xs) count (f count (get_or xs count d)) ≡ changed_front 0 (count + 1) xs
  front-next count xs d inside =
      let here : count ≡ 0 + count = omega arith in
      ap (λ (n : ℕ). slice_set (changed_front 0 count xs) count (f n (get_or xs count d))) here
      ∙ front-more 0 count xs d inside ∙ ap (λ (n : ℕ). changed_front 0 n xs) (sym (add-one count))

module _ (truncate : Bool) (widths rooms : List ℕ) where
  abbrev fits : ℕ → List ℕ → List ℕ
  fits = fitted_at truncate widths rooms

  abbrev fit_from : ℕ → List (List ℕ) → List (List ℕ)
  fit_from = fitted_row truncate widths rooms

  -- all of a row
  front-row : (column count : ℕ) (texts : List (List ℕ)) → length texts ≤ count → changed_front fits column count texts ≡ fit_from column texts
  front-row column count [] all = refl
  front-row column zero (text ∷ texts) all = absurd (omega (arith, all))
  front-row column (suc count) (text ∷ texts) all = ap (λ (rest : List (List ℕ)). fits column text ∷ rest) (front-row (column + 1) count texts (omega (arith, all)))

  pub row-fitted : (count : ℕ) (texts : List (List ℕ)) → length texts ≡ count → changed_front fits 0 count texts ≡ fit_from 0 texts
  row-fitted count texts all = front-row 0 count texts (omega (arith, all))

  -- and all rows
  front-rows : (row count : ℕ) (rows : List (List (List ℕ))) → length rows ≤ count → changed_front (λ n texts. fit_from 0 texts) row count rows ≡ map (fit_from 0) rows
  front-rows row count [] all = refl
  front-rows row zero (texts ∷ rows) all = absurd (omega (arith, all))
  front-rows row (suc count) (texts ∷ rows) all = ap (λ (rest : List (List (List ℕ))). fit_from 0 texts ∷ rest) (front-rows (row + 1) count rows (omega (arith, all)))

  pub rows-fitted : (count : ℕ) (rows : List (List (List ℕ))) → length rows ≡ count → changed_front (λ n texts. fit_from 0 texts) 0 count rows ≡ map (fit_from 0) rows
  rows-fitted count rows all = front-rows 0 count rows (omega (arith, all))

  -- one text more of a row among rows
  pub text-fitted : (rows : List (List (List ℕ))) (row k : ℕ) → row < length rows → k < length (row_at rows row)
      → slice_set (slice_set rows row (changed_front fits 0 k (row_at rows row))) row (slice_set (row_at (slice_set rows row (changed_front fits 0 k (row_at rows row))) row) k (fits k (get_or (row_at (slice_set rows row (changed_front fits 0 k (row_at rows row))) row) k [])))
      ≡ slice_set rows row (changed_front fits 0 (k + 1) (row_at rows row))
  text-fitted rows row k below inside =
      let texts = row_at rows row in
      let now = slice_set rows row (changed_front fits 0 k texts) in
      let here : row_at now row ≡ changed_front fits 0 k texts = get_or-set_same rows row (changed_front fits 0 k texts) [] below in
      ap (λ (it : List (List ℕ)). slice_set now row (slice_set it k (fits k (get_or it k [])))) here
      ∙ ap (λ (text : List ℕ). slice_set now row (slice_set (changed_front fits 0 k texts) k (fits k text))) (front-at fits 0 k texts [])
      ∙ ap (slice_set now row) (front-next fits k texts [] inside)
      ∙ set-set rows row (changed_front fits 0 k texts) (changed_front fits 0 (k + 1) texts)

  -- ---- the texts that change one by one

  texts-by : (first : ℕ) (found row : List (List ℕ)) → length found ≡ length row → ((k : ℕ) → k < length row → get_or found k [] ≡ fits (first + k) (get_or row k [])) → found ≡ fit_from first row
  texts-by first [] [] same each = refl
  texts-by first (text ∷ found) [] same each = absurd (omega (arith, same))
  texts-by first [] (text ∷ row) same each = absurd (omega (arith, same))
  texts-by first (text ∷ found) (old ∷ row) same each =
      let here : first + 0 ≡ first = omega arith in
      ap (λ (t : List ℕ). t ∷ found) (each 0 (omega arith) ∙ ap (λ k. fits k old) here)
      ∙ ap (λ (rest : List (List ℕ)). fits first old ∷ rest)
      (texts-by (first + 1) found row (omega (arith, same))
      (λ k below. let there : first + suc k ≡ first + 1 + k = omega arith in each (suc k) (omega (arith, below)) ∙ ap (λ j. fits j (get_or row k [])) there))

  all-by : (found rows : List (List (List ℕ))) → length found ≡ length rows → ((i : ℕ) → i < length rows → row_at found i ≡ fit_from 0 (row_at rows i)) → found ≡ map (fit_from 0) rows
  all-by [] [] same each = refl
  all-by (row ∷ found) [] same each = absurd (omega (arith, same))
  all-by [] (row ∷ rows) same each = absurd (omega (arith, same))
  all-by (row ∷ found) (old ∷ rows) same each =
      ap (λ (r : List (List ℕ)). r ∷ found) (each 0 (omega arith))
      ∙ ap (λ (rest : List (List (List ℕ))). fit_from 0 old ∷ rest) (all-by found rows (omega (arith, same)) (λ i below. each (suc i) (omega (arith, below))))

  abbrev change : Position → List ℕ → Option (List ℕ)
  change = λ place. fitted truncate widths rooms place.col

  changed-by : (rows : List (List (List ℕ))) → ((i : ℕ) → i < length rows → length (row_at rows i) ≡ column_count rows) → changed_rows change EveryCell (column_count rows) rows ≡ map (fit_from 0) rows
  changed-by rows long =
      let places = covered_positions EveryCell (length rows) (column_count rows) in
      let found : List (List (List ℕ)) = changed_rows change EveryCell (column_count rows) rows in
      all-by found rows (row-count change rows places)
      (λ i below. texts-by 0 (row_at found i) (row_at rows i) (text-count change rows i below places)
      (λ k inside.
      let place : Position = record { row = i; col = k } in
      let there : k ≡ 0 + k = omega arith in
      text-at change rows place (below, inside) EveryCell (omega (arith, inside, long i below)) ∙ ap (λ j. fits j (get_or (row_at rows i) k [])) there))

  -- ---- rows that are filled

  -- the empty text takes no column
  pub nothing-wide : (room : ℕ) → fitted_in truncate room [] ≡ None
  nothing-wide room =
      let stays : nat_lt room (text_width []) ≡ false = ap (nat_lt room) no-width ∙ le-ltb room 0 (omega arith) in
      ap (λ (wider : Bool). if wider then Some (fitted_text truncate room []) else None) stays

  fits-empty : (column : ℕ) → fits column [] ≡ []
  fits-empty column = by (is_narrowed widths rooms column)
    where
      by : (narrowed : Bool) → unwrap_or (if narrowed then fitted_in truncate (slice_index rooms column - 2) [] else None) [] ≡ []
      by false = refl
      by true = ap (λ (found : Option (List ℕ)). unwrap_or found []) (nothing-wide (slice_index rooms column - 2))

  fitted-empty : (column count : ℕ) → fit_from column (replicate count []) ≡ replicate count []
  fitted-empty column zero = refl
  fitted-empty column (suc count) = ap₂ (λ (text : List ℕ) (rest : List (List ℕ)). text ∷ rest) (fits-empty column) (fitted-empty (column + 1) count)

  fitted-length : (column : ℕ) (texts : List (List ℕ)) → length (fit_from column texts) ≡ length texts
  fitted-length column [] = refl
  fitted-length column (text ∷ texts) = ap (λ (n : ℕ). suc n) (fitted-length (column + 1) texts)

  fitted-more : (column count : ℕ) (texts : List (List ℕ)) → fit_from column (texts ++ replicate count []) ≡ fit_from column texts ++ replicate count []
  fitted-more column count [] = fitted-empty column count
  fitted-more column count (text ∷ texts) = ap (λ (rest : List (List ℕ)). fits column text ∷ rest) (fitted-more (column + 1) count texts)

  longest-fitted : (rows : List (List (List ℕ))) → longest (map (fit_from 0) rows) ≡ longest rows
  longest-fitted [] = refl
  longest-fitted (row ∷ rows) = ap₂ max (fitted-length 0 row) (longest-fitted rows)

  filled-each : (n : ℕ) (rows : List (List (List ℕ))) → map (filled_row n) (map (fit_from 0) rows) ≡ map (fit_from 0) (map (filled_row n) rows)
  filled-each n [] = refl
  filled-each n (row ∷ rows) =
      ap₂ (λ (it : List (List ℕ)) (rest : List (List (List ℕ))). it ∷ rest)
      (ap (λ (m : ℕ). fit_from 0 row ++ replicate (n - m) []) (fitted-length 0 row) ∙ sym (fitted-more 0 (n - length row) row)) (filled-each n rows)

  filled-fitted : (rows : List (List (List ℕ))) → filled (map (fit_from 0) rows) ≡ map (fit_from 0) (filled rows)
  filled-fitted rows = ap (λ (n : ℕ). map (filled_row n) (map (fit_from 0) rows)) (longest-fitted rows) ∙ filled-each (longest rows) rows

  -- ---- all texts

  pub texts-changed : (rows : List (List (List ℕ))) → filled (map (fit_from 0) rows) ≡ changed_rows change EveryCell (column_count (filled rows)) (filled rows)
  texts-changed rows = filled-fitted rows ∙ sym (changed-by (filled rows) (λ i below. rows-even i rows below))
