-- The first cell of a table that passes a test, by row, then by column.
use Rattle.std.proofs.Common.{◌≡◌, ◌≢◌, ◌==◌, ℕ, zero, suc, ◌+◌, ◌-◌, ◌<◌, ◌≤◌, Bool, true, false, List, [], ◌∷◌, ◌++◌, None, Some, cond, map, refl, ap, ◌∙◌, arith}
use Rattle.std.specs.List.{find, flat_map, range_with_len}
use Rattle.std.specs.Option.{option_or}
use Rattle.std.proofs.lemmas.Bool.Decides.{nat_tests}
use Rattle.std.proofs.lemmas.List.{map-append}
use Rattle.std.proofs.lemmas.List.Concat.{flat_map-append}
use Rattle.std.proofs.lemmas.List.Folds.{find-append}
use Rattle.grid_config_values.specs.Entities.{table_positions}
use Rattle.grid_config_values.specs.declared.position.Position.{Position}
use Rattle.grid_config_values.specs.declared.spans.extent.Extent.{Extent}
use Rattle.grid_config_values.specs.Spans.Spans.{AreGood, extent_at, single}
use Rattle.papergrid_picture.specs.Picture.{at}

-- ---- ranges

range-part : (a k m : ℕ) → range_with_len a (k + suc m) ≡ range_with_len a k ++ (a + k) ∷ range_with_len (a + k + 1) m
range-part a zero m =
    let same : a ≡ a + 0 = omega arith in
    let all : 0 + suc m ≡ suc m = omega arith in
    ap (range_with_len a) all ∙ ap (λ b. b ∷ range_with_len (b + 1) m) same
range-part a (suc k) m =
    let same : a + 1 + k ≡ a + suc k = omega arith in
    let all : suc k + suc m ≡ suc (k + suc m) = omega arith in
    ap (range_with_len a) all ∙ ap (λ xs. a ∷ xs) (range-part (a + 1) k m) ∙ ap (λ b. a ∷ (range_with_len (a + 1) k ++ b ∷ range_with_len (b + 1) m)) same

pub range-at : (k n : ℕ) → k < n → range_with_len 0 n ≡ range_with_len 0 k ++ k ∷ range_with_len (k + 1) (n - (k + 1))
range-at k n h =
    let all : n ≡ k + suc (n - (k + 1)) = omega arith in
    let place : 0 + k ≡ k = omega arith in
    ap (range_with_len 0) all ∙ range-part 0 k (n - (k + 1)) ∙ ap (λ b. range_with_len 0 k ++ b ∷ range_with_len (b + 1) (n - (k + 1))) place

range-next : (k : ℕ) → range_with_len 0 (k + 1) ≡ range_with_len 0 k ++ k ∷ []
range-next k =
    let below : k < k + 1 = omega arith in
    let none : k + 1 - (k + 1) ≡ 0 = omega arith in
    range-at k (k + 1) below ∙ ap (λ m. range_with_len 0 k ++ k ∷ range_with_len (k + 1) m) none

-- ---- the first

module _ {X : Type 0} (test : X → Bool) where
  pub find-behind : (xs ys : List X) → find test xs ≡ None → find test (xs ++ ys) ≡ find test ys
  find-behind xs ys h = find-append test xs ys ∙ ap (λ o. option_or o (find test ys)) h

  pub find-front : (xs ys : List X) (x : X) → find test xs ≡ Some x → find test (xs ++ ys) ≡ Some x
  find-front xs ys x h = find-append test xs ys ∙ ap (λ o. option_or o (find test ys)) h

  pub find-here : (x : X) (xs : List X) → test x ≡ true → find test (x ∷ xs) ≡ Some x
  find-here x xs h = ap (λ b. cond b (Some x) (find test xs)) h

  pub find-past : (x : X) → test x ≡ false → find test (x ∷ []) ≡ None
  find-past x h = ap (λ b. cond b (Some x) None) h

-- ---- cells

module _ (test : Position → Bool) where
  pub none-in_row-more : (row column : ℕ) → find test (map (at row) (range_with_len 0 column)) ≡ None → test (at row column) ≡ false → find test (map (at row) (range_with_len 0 (column + 1))) ≡ None
  none-in_row-more row column h off =
      ap (λ xs. find test (map (at row) xs)) (range-next column) ∙ ap (find test) (map-append (at row) (range_with_len 0 column) (column ∷ []))
      ∙ find-behind test (map (at row) (range_with_len 0 column)) (at row column ∷ []) h ∙ find-past test (at row column) off

  pub found-in_row : (row column columns : ℕ) → column < columns → find test (map (at row) (range_with_len 0 column)) ≡ None → test (at row column) ≡ true
      → find test (map (at row) (range_with_len 0 columns)) ≡ Some (at row column)
  found-in_row row column columns below h on =
      let rest = range_with_len (column + 1) (columns - (column + 1)) in
      ap (λ xs. find test (map (at row) xs)) (range-at column columns below) ∙ ap (find test) (map-append (at row) (range_with_len 0 column) (column ∷ rest))
      ∙ find-behind test (map (at row) (range_with_len 0 column)) (at row column ∷ map (at row) rest) h ∙ find-here test (at row column) (map (at row) rest) on

  row_of : ℕ → ℕ → List Position
  row_of columns row = map (at row) (range_with_len 0 columns)

  pub none-more : (columns row : ℕ) → find test (table_positions row columns) ≡ None → find test (map (at row) (range_with_len 0 columns)) ≡ None → find test (table_positions (row + 1) columns) ≡ None
  none-more columns row above here =
      let cells : ℕ → List Position = λ i. map (at i) (range_with_len 0 columns) in
      ap (λ xs. find test (flat_map cells xs)) (range-next row) ∙ ap (find test) (flat_map-append cells (range_with_len 0 row) (row ∷ []))
      ∙ find-behind test (flat_map cells (range_with_len 0 row)) (cells row ++ []) above ∙ find-behind test (cells row) [] here

  pub found-row : (columns row rows : ℕ) (place : Position) → row < rows → find test (table_positions row columns) ≡ None → find test (map (at row) (range_with_len 0 columns)) ≡ Some place
      → find test (table_positions rows columns) ≡ Some place
  found-row columns row rows place below above here =
      let cells : ℕ → List Position = λ i. map (at i) (range_with_len 0 columns) in
      let rest = range_with_len (row + 1) (rows - (row + 1)) in
      ap (λ xs. find test (flat_map cells xs)) (range-at row rows below) ∙ ap (find test) (flat_map-append cells (range_with_len 0 row) (row ∷ rest))
      ∙ find-behind test (flat_map cells (range_with_len 0 row)) (cells row ++ flat_map cells rest) above ∙ find-front test (cells row) (flat_map cells rest) place here

-- a cell of a table with good spans takes columns of the table alone
pub columns-inside : (spans : List (Position × Extent)) (rows columns : ℕ) (place : Position) → AreGood spans rows columns → place.row < rows → place.col < columns
    → place.col + (extent_at spans place).columns ≤ columns
columns-inside spans rows columns place good in_rows in_columns = one_or_more ((extent_at spans place).columns == 1) refl where
  one_or_more : (b : Bool) → ((extent_at spans place).columns == 1) ≡ b → place.col + (extent_at spans place).columns ≤ columns
  one_or_more true is = let one : (extent_at spans place).columns ≡ 1 = grind (arith, nat_tests) in omega arith
  one_or_more false is =
      let several : extent_at spans place ≢ single = λ e. (let one : (extent_at spans place).columns ≡ 1 = ap (λ x. x.columns) e in grind (arith, nat_tests)) in
      (good.inside place several (in_rows, in_columns)).columns_fit
