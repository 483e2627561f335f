-- The cells that are seen in a table whose spans are good.
use Rattle.std.proofs.Common.{◌≡◌, ◌==◌, ℕ, ◌<◌, ◌≤◌, true, false, List, refl, ap, sym, subst, arith}
use Rattle.std.proofs.lemmas.Bool.Decides.{nat_tests}
use Rattle.grid_config_values.specs.declared.position.Position.{Position}
use Rattle.grid_config_values.specs.declared.spans.extent.Extent.{Extent}
use Rattle.grid_config_values.specs.Spans.Owners.{owner}
use Rattle.grid_config_values.specs.Spans.Rectangles.{Holds, IsInside}
use Rattle.grid_config_values.specs.Spans.Spans.{AreGood, SpansSeveral, IsInTable, extent_at}
use Rattle.grid_config_values.proofs.SpansLemmas.Owners.{Itself, Held, is_owned, owner_goes_on, owner_holds, owner_in_table}
use Rattle.papergrid_picture.specs.Frame.{column_count, row_count}
use Rattle.papergrid_picture.specs.Blocks.{Grid}
use Rattle.papergrid_picture.specs.Picture.{at, seen}
use Rattle.papergrid_picture.specs.Tiling.{HasGoodSpans}

-- the rectangle of a cell of the table is in the table
inside-table : (spans : List (Position × Extent)) (rows columns : ℕ) (pos : Position) → AreGood spans rows columns → IsInTable rows columns pos → IsInside pos (extent_at spans pos) rows columns
inside-table spans rows columns pos good inside = elim ((extent_at spans pos).rows == 1) as (λ b. ((extent_at spans pos).rows == 1) ≡ b → IsInside pos (extent_at spans pos) rows columns) [
  | true ↦ λ one_row. elim ((extent_at spans pos).columns == 1) as (λ b. ((extent_at spans pos).columns == 1) ≡ b → IsInside pos (extent_at spans pos) rows columns) [
    | true ↦ λ one_column. record { rows_fit = grind (arith, nat_tests, one_row, inside); columns_fit = grind (arith, nat_tests, one_column, inside) }
    | false ↦ λ several. good.inside pos (λ alone. absurd (grind (arith, nat_tests, several, ap (λ (e : Extent). e.columns) alone))) inside
  ] refl
  | false ↦ λ several. good.inside pos (λ alone. absurd (grind (arith, nat_tests, several, ap (λ (e : Extent). e.rows) alone))) inside
] refl

-- no cell of the table goes on below it
none-below : (spans : List (Position × Extent)) (rows columns : ℕ) → AreGood spans rows columns → (j : ℕ) → j < columns → ¬ ((owner (extent_at spans) (at rows j)).row < rows)
none-below spans rows columns good j inside above = elim (is_owned (extent_at spans) (at rows j)) [
  | Itself same only ↦ omega (arith, ap (λ (p : Position). p.row) same, above)
  | Held held other ↦
      let cell = owner (extent_at spans) (at rows j) in
      let spanning : SpansSeveral spans cell = λ alone. absurd (omega (arith, held.above, ap (λ (e : Extent). e.rows) alone, above)) in
      let fits : IsInside cell (extent_at spans cell) rows columns = good.inside cell spanning (above, omega (arith, held.right, inside)) in
      omega (arith, fits.rows_fit, held.above)
]

module _ (grid : Grid) (spans : List (Position × Extent)) (good : HasGoodSpans grid spans) where
  abbrev pub rows_of : ℕ
  rows_of = row_count grid.frame

  abbrev pub columns_of : ℕ
  columns_of = column_count grid.frame

  abbrev pub extent_of : Position → Extent
  extent_of = grid.frame.look.extent

  -- the rectangle of the cell that is seen at a place holds it
  pub seen-holds : (i j : ℕ) → Holds (seen grid i j) (extent_of (seen grid i j)) (at i j)
  seen-holds i j =
      subst (λ (extent : Position → Extent). Holds (owner extent (at i j)) (extent (owner extent (at i j))) (at i j)) (sym good.extents)
      (owner_holds spans (at i j) good.positive)

  pub seen-in_table : (i j : ℕ) → i < rows_of → j < columns_of → IsInTable rows_of columns_of (seen grid i j)
  seen-in_table i j row column =
      subst (λ (extent : Position → Extent). IsInTable rows_of columns_of (owner extent (at i j))) (sym good.extents)
      (owner_in_table spans rows_of columns_of (at i j) (row, column))

  -- and is in the table
  pub seen-inside : (i j : ℕ) → i < rows_of → j < columns_of → IsInside (seen grid i j) (extent_of (seen grid i j)) rows_of columns_of
  seen-inside i j row column =
      subst (λ (extent : Position → Extent). IsInside (owner extent (at i j)) (extent (owner extent (at i j))) rows_of columns_of) (sym good.extents)
      (inside-table spans rows_of columns_of (owner (extent_at spans) (at i j)) good.good (owner_in_table spans rows_of columns_of (at i j) (row, column)))

  -- it is seen at each place of the table that its rectangle holds
  pub seen-goes_on : (i j k l : ℕ) → i < rows_of → j < columns_of → k < rows_of → l < columns_of → Holds (seen grid i j) (extent_of (seen grid i j)) (at k l) → seen grid k l ≡ seen grid i j
  seen-goes_on i j k l row column other_row other_column held =
      subst (λ (extent : Position → Extent). Holds (owner extent (at i j)) (extent (owner extent (at i j))) (at k l) → owner extent (at k l) ≡ owner extent (at i j)) (sym good.extents)
      (owner_goes_on spans rows_of columns_of (at i j) (at k l) good.positive good.good (row, column) (other_row, other_column)) held

  pub seen-above : (i j : ℕ) → i ≤ rows_of → j < columns_of → (seen grid i j).row < i → i < rows_of
  seen-above i j row column above = elim (i == rows_of) as (λ b. (i == rows_of) ≡ b → i < rows_of) [
    | true ↦ λ e.
        let same : i ≡ rows_of = grind (arith, nat_tests, e) in
        let below : ¬ ((seen grid rows_of j).row < rows_of) =
        subst (λ (extent : Position → Extent). ¬ ((owner extent (at rows_of j)).row < rows_of)) (sym good.extents) (none-below spans rows_of columns_of good.good j column) in
        absurd (below (subst (λ n. (seen grid n j).row < n) same above))
    | false ↦ λ e. grind (arith, nat_tests, e, row)
  ] refl
