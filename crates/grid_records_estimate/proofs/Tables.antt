-- A table that was read is described by its columns, and by its rows.
use Rattle.std.proofs.Common.{◌≡◌, ℕ, zero, suc, ◌+◌, ◌==◌, ◌<◌, ◌≤◌, Bool, true, false, not, if◌then◌else◌, List, [], ◌∷◌, ◌++◌, length, get_or, refl, ap, sym, ◌∙◌, subst, arith, append_assoc}
use Rattle.std.specs.List.{flat_map, range_with_len}
use Rattle.std.specs.List.Sorted.{IsPermutation}
use Rattle.std.proofs.lemmas.Bool.Decides.{nat_tests}
use Rattle.std.proofs.lemmas.List.Concat.{flat_map-append}
use Rattle.std.proofs.lemmas.List.Sorted.{IsPermutation-append_comm, IsPermutation-append_left, IsPermutation-append_right, IsPermutation-refl, IsPermutation-trans}
use Rattle.grid_config.specs.Glyphs.{Between, boundary_kind, has_column_boundary, has_row_boundary}
use Rattle.grid_records_traits.specs.Rows.{row_at, text_at}
use Rattle.grid_records_estimate.specs.declared.need.Need.{Need}
use Rattle.grid_records_estimate.specs.Collecting.{AreFirstBelow, Collected, Describes, HasBetween, all_needs, is_of_one_track}
use Rattle.grid_records_estimate.specs.CollectedNeeds.{HasRead, Placed, height_needs, width_needs, row_cells_from, table_cells}
use Rattle.grid_records_estimate.specs.Sizing.{TableSizing, column_needs, is_visible, position_at, row_needs}
use Rattle.grid_records_estimate.proofs.Each.{All-from_Each, Each, Each-filter, Each-flat_map}

-- ---- rows and columns exchanged

merged : {X Y : Type 0} (p q : X → List Y) (xs : List X) → IsPermutation (flat_map p xs ++ flat_map q xs) (flat_map (λ x. p x ++ q x) xs)
merged p q [] = IsPermutation-refl []
merged {X} {Y} p q (x ∷ xs) =
    let P = flat_map p xs in
    let Q = flat_map q xs in
    let M = flat_map (λ x. p x ++ q x) xs in
    let turned : IsPermutation ((P ++ q x) ++ Q) ((q x ++ P) ++ Q) = IsPermutation-append_left Q (P ++ q x) (q x ++ P) (IsPermutation-append_comm P (q x)) in
    let inner : IsPermutation (q x ++ (P ++ Q)) (q x ++ M) = IsPermutation-append_right (q x) (P ++ Q) M (merged p q xs) in
    let A : List Y → Type 0 = λ ys. IsPermutation (P ++ (q x ++ Q)) ys in
    let B : List Y → Type 0 = λ ys. IsPermutation ys ((q x ++ P) ++ Q) in
    let front : IsPermutation (P ++ (q x ++ Q)) (q x ++ (P ++ Q)) = subst A (append_assoc (q x) P Q) (subst B (append_assoc P (q x) Q) turned) in
    let all : IsPermutation (p x ++ (P ++ (q x ++ Q))) (p x ++ (q x ++ M)) =
    IsPermutation-append_right (p x) (P ++ (q x ++ Q)) (q x ++ M) (IsPermutation-trans (P ++ (q x ++ Q)) (q x ++ (P ++ Q)) (q x ++ M) front inner) in
    let C : List Y → Type 0 = λ ys. IsPermutation ys (p x ++ (q x ++ M)) in
    let D : List Y → Type 0 = λ ys. IsPermutation ((p x ++ P) ++ (q x ++ Q)) ys in
    subst D (sym (append_assoc (p x) (q x) M)) (subst C (sym (append_assoc (p x) P (q x ++ Q))) all)

nothing : {X Y : Type 0} (xs : List X) → flat_map (λ (x : X). let none : List Y = [] in none) xs ≡ []
nothing [] = refl
nothing (x ∷ xs) = nothing xs

transposed : {X : Type 0} (f : ℕ → ℕ → List X) (xs ys : List ℕ) → IsPermutation (flat_map (λ i. flat_map (λ j. f i j) ys) xs) (flat_map (λ j. flat_map (λ i. f i j) xs) ys)
transposed {X} f [] ys =
    let P : List X → Type 0 = λ zs. IsPermutation [] zs in
    subst P (sym (nothing ys)) (IsPermutation-refl [])
transposed {X} f (x ∷ xs) ys =
    let g : ℕ → List X = λ j. flat_map (λ i. f i j) xs in
    let rest = flat_map (λ i. flat_map (λ j. f i j) ys) xs in
    IsPermutation-trans (flat_map (λ j. f x j) ys ++ rest) (flat_map (λ j. f x j) ys ++ flat_map g ys) (flat_map (λ j. f x j ++ g j) ys)
    (IsPermutation-append_right (flat_map (λ j. f x j) ys) rest (flat_map g ys) (transposed f xs ys))
    (merged (λ j. f x j) g ys)

-- ---- cells by their places

flat_map-range : {X : Type 0} (f g : ℕ → List X) (a n : ℕ) → ((k : ℕ) → a ≤ k → k < a + n → f k ≡ g k) → flat_map f (range_with_len a n) ≡ flat_map g (range_with_len a n)
flat_map-range f g a zero h = refl
flat_map-range f g a (suc n) h =
    ap (λ xs. xs ++ flat_map f (range_with_len (a + 1) n)) (h a (omega arith) (omega arith))
    ∙ ap (λ xs. g a ++ xs) (flat_map-range f g (a + 1) n (λ k low high. h k (omega arith) (omega arith)))

row-places : {X : Type 0} (f : Placed → List X) (row column : ℕ) (texts : List (List ℕ)) (text : ℕ → List ℕ) → ((k : ℕ) → k < length texts → text (column + k) ≡ get_or texts k [])
    → flat_map f (row_cells_from row column texts) ≡ flat_map (λ j. f (position_at row j, text j)) (range_with_len column (length texts))
row-places f row column [] text h = refl
row-places f row column (t ∷ texts) text h =
    let first : text (column + 0) ≡ t = h 0 (omega arith) in
    let here : column + 0 ≡ column = omega arith in
    let is : text column ≡ t = ap text (sym here) ∙ first in
    ap (λ s. f (position_at row column, s) ++ flat_map f (row_cells_from row (column + 1) texts)) (sym is)
    ∙ ap (λ xs. f (position_at row column, text column) ++ xs)
    (row-places f row (column + 1) texts text (λ k below. let step : column + 1 + k ≡ column + suc k = omega arith in ap text step ∙ h (suc k) (omega arith)))

table-places : {X : Type 0} (f : Placed → List X) (row : ℕ) (rows : List (List (List ℕ))) (texts : ℕ → List (List ℕ)) → ((k : ℕ) → k < length rows → texts (row + k) ≡ get_or rows k [])
    → flat_map f (table_cells row rows) ≡ flat_map (λ i. flat_map f (row_cells_from i 0 (texts i))) (range_with_len row (length rows))
table-places f row [] texts h = refl
table-places f row (r ∷ rows) texts h =
    let first : texts (row + 0) ≡ r = h 0 (omega arith) in
    let here : row + 0 ≡ row = omega arith in
    let is : texts row ≡ r = ap texts (sym here) ∙ first in
    flat_map-append f (row_cells_from row 0 r) (table_cells (row + 1) rows)
    ∙ ap (λ s. flat_map f (row_cells_from row 0 s) ++ flat_map f (table_cells (row + 1) rows)) (sym is)
    ∙ ap (λ xs. flat_map f (row_cells_from row 0 (texts row)) ++ xs)
    (table-places f (row + 1) rows texts (λ k below. let step : row + 1 + k ≡ row + suc k = omega arith in ap texts step ∙ h (suc k) (omega arith)))

module _ (columns : ℕ) (rows : List (List (List ℕ))) (even : (i : ℕ) → i < length rows → length (row_at rows i) ≡ columns) where
  -- row by row, and in a row column by column
  in-order : {X : Type 0} (f : Placed → List X)
      → flat_map f (table_cells 0 rows) ≡ flat_map (λ i. flat_map (λ j. f (position_at i j, text_at rows (position_at i j))) (range_with_len 0 columns)) (range_with_len 0 (length rows))
  in-order f =
      table-places f 0 rows (row_at rows) (λ k below. let step : 0 + k ≡ k = omega arith in ap (row_at rows) step)
      ∙ flat_map-range (λ i. flat_map f (row_cells_from i 0 (row_at rows i))) (λ i. flat_map (λ j. f (position_at i j, text_at rows (position_at i j))) (range_with_len 0 columns)) 0 (length rows)
      (λ i low high.
      row-places f i 0 (row_at rows i) (λ j. text_at rows (position_at i j)) (λ k below. let step : 0 + k ≡ k = omega arith in ap (λ j. text_at rows (position_at i j)) step)
      ∙ ap (λ n. flat_map (λ j. f (position_at i j, text_at rows (position_at i j))) (range_with_len 0 n)) (even i (omega arith)))

  module _ (sizing : TableSizing) where
    heights-are : flat_map (height_needs sizing) (table_cells 0 rows) ≡ all_needs (row_needs sizing columns rows)
    heights-are = in-order (height_needs sizing)

    widths-are : IsPermutation (flat_map (width_needs sizing) (table_cells 0 rows)) (all_needs (column_needs sizing columns rows))
    widths-are =
        let W : ℕ → ℕ → List Need = λ i j. width_needs sizing (position_at i j, text_at rows (position_at i j)) in
        let P : List Need → Type 0 = λ needs. IsPermutation needs (all_needs (column_needs sizing columns rows)) in
        subst P (sym (in-order (width_needs sizing))) (transposed W (range_with_len 0 (length rows)) (range_with_len 0 columns))

    -- each boundary inside is one between
    between-columns : HasBetween (column_needs sizing columns rows).has_boundary columns (has_column_boundary sizing.borders Between)
    between-columns = λ j low high.
        let first : (j == 0) ≡ false = grind (arith, nat_tests) in
        let last : (j == columns) ≡ false = grind (arith, nat_tests) in
        let kind : boundary_kind j columns ≡ Between = rw (first, last) refl in
        ap (has_column_boundary sizing.borders) kind

    between-rows : HasBetween (row_needs sizing columns rows).has_boundary (length rows) (has_row_boundary sizing.borders Between)
    between-rows = λ j low high.
        let first : (j == 0) ≡ false = grind (arith, nat_tests) in
        let last : (j == length rows) ≡ false = grind (arith, nat_tests) in
        let kind : boundary_kind j (length rows) ≡ Between = rw (first, last) refl in
        ap (has_row_boundary sizing.borders) kind

    module _ (widths heights : Collected) (read : HasRead sizing widths heights (table_cells 0 rows)) where
      pub describes-columns : Describes (column_needs sizing columns rows) columns (length rows) (has_column_boundary sizing.borders Between) widths
      describes-columns = record {
        tracks_are = refl;
        cross_tracks_are = refl;
        boundaries = between-columns;
        needs = flat_map (width_needs sizing) (table_cells 0 rows);
        kept = read.widths_are;
        all = widths-are;
      }

      pub describes-rows : Describes (row_needs sizing columns rows) (length rows) columns (has_row_boundary sizing.borders Between) heights
      describes-rows = record {
        tracks_are = refl;
        cross_tracks_are = refl;
        boundaries = between-rows;
        needs = flat_map (height_needs sizing) (table_cells 0 rows);
        kept = read.heights_are;
        all = let P : List Need → Type 0 = λ needs. IsPermutation (flat_map (height_needs sizing) (table_cells 0 rows)) needs in subst P heights-are (IsPermutation-refl (flat_map (height_needs sizing) (table_cells 0 rows)));
      }

      visible-only : (n : ℕ) (b : Bool) (need : Need) → need.first < n → Each (λ x. x.first < n) (if b then need ∷ [] else [])
      visible-only n true need below = (below, tt)
      visible-only n false need below = tt

      pub columns-below : AreFirstBelow columns widths.others
      columns-below =
          let B : Need → Type 0 = λ need. need.first < columns in
          let P : List Need → Type 0 = λ needs. Each B needs in
          let all : Each B (flat_map (width_needs sizing) (table_cells 0 rows)) = subst P (sym (in-order (width_needs sizing)))
          (Each-flat_map B (λ i. flat_map (λ j. width_needs sizing (position_at i j, text_at rows (position_at i j))) (range_with_len 0 columns)) 0 (length rows)
          (λ i low high. Each-flat_map B (λ j. width_needs sizing (position_at i j, text_at rows (position_at i j))) 0 columns
          (λ j from to. visible-only columns (is_visible sizing.spans (position_at i j)) _ (omega arith)))) in
          All-from_Each B widths.others (subst P (sym read.widths_are.others) (Each-filter B (λ need. not (is_of_one_track need)) (flat_map (width_needs sizing) (table_cells 0 rows)) all))

      pub rows-below : AreFirstBelow (length rows) heights.others
      rows-below =
          let B : Need → Type 0 = λ need. need.first < length rows in
          let P : List Need → Type 0 = λ needs. Each B needs in
          let all : Each B (flat_map (height_needs sizing) (table_cells 0 rows)) = subst P (sym (in-order (height_needs sizing)))
          (Each-flat_map B (λ i. flat_map (λ j. height_needs sizing (position_at i j, text_at rows (position_at i j))) (range_with_len 0 columns)) 0 (length rows)
          (λ i low high. Each-flat_map B (λ j. height_needs sizing (position_at i j, text_at rows (position_at i j))) 0 columns
          (λ j from to. visible-only (length rows) (is_visible sizing.spans (position_at i j)) _ (omega arith)))) in
          All-from_Each B heights.others (subst P (sym read.heights_are.others) (Each-filter B (λ need. not (is_of_one_track need)) (flat_map (height_needs sizing) (table_cells 0 rows)) all))
