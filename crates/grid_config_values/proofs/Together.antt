-- The calls for columns, rows and cells: which one a position has, and what one more does.
use Rattle.std.proofs.Common.{◌≡◌, ℕ, ◌+◌, ◌<◌, List, [], ◌∷◌, ◌++◌, map, Option, Result, Ok, Err, OnErr, is_eq, nat_cmp, Equal, refl, ap, ap₂, sym, subst, ◌∙◌, arith}
use Rattle.std.specs.Cmp.{IsTotalOrder}
use Rattle.std.proofs.lemmas.Bool.Decides.{nat_tests}
use Rattle.std.proofs.lemmas.Cmp.{nat_cmp_total, on_total, then_total}
use Rattle.std.proofs.lemmas.List.{map-append}
use Rattle.grid_config_values.specs.declared.entity.Entity.TheVariants.{Column, Row}
use Rattle.grid_config_values.specs.declared.numbered.Numbered.{Numbered}
use Rattle.grid_config_values.specs.declared.position.Position.{Position}
use Rattle.grid_config_values.specs.Entities.{covers}
use Rattle.grid_config_values.specs.Numbers.{AreBelow, AreKept, AreRenumbered, AreRising, Call, IsFound, Keeps, call_for, calls_for, cell_at, in_order, keys_of, later, numbers, numbers_of, value_or}
use Rattle.grid_config_values.specs.Order.{position_cmp}
use Rattle.grid_config_values.specs.Settings.{AddsCall, value_after}
use Rattle.grid_config_values.proofs.Kept.{below_kept, newest_found, newest_kept, rising_kept}
use Rattle.grid_config_values.proofs.Numbers.{below_weaker, each_append, each_left, each_right, newest, newest-append, newer_left, newer_right, numbers_for, numbers_of_all, value_in_order, value_of_newer}

same_number : (a b : ℕ) → nat_cmp a b ≡ Equal → a ≡ b
same_number a b same = grind (arith, nat_tests)

pub same_position : (a b : Position) → position_cmp a b ≡ Equal → a ≡ b
same_position a b same =
    let rows : a.row ≡ b.row = grind (arith, nat_tests) in
    let cols : a.col ≡ b.col = grind (arith, nat_tests) in
    λ i. record { row = rows i; col = cols i }

pub position_total : IsTotalOrder position_cmp
position_total = then_total (on_total (λ (p : Position). p.row) nat_cmp_total) (on_total (λ (p : Position). p.col) nat_cmp_total)

column_names : (p : Position) (k : ℕ) → covers (Column k) p ≡ is_eq (nat_cmp k p.col)
column_names p k = grind (arith, nat_tests)

row_names : (p : Position) (k : ℕ) → covers (Row k) p ≡ is_eq (nat_cmp k p.row)
row_names p k = grind (arith, nat_tests)

cell_names : (p k : Position) → covers (cell_at k) p ≡ is_eq (position_cmp k p)
cell_names p k = grind (arith, nat_tests)

module _ {T : Type 0} (columns rows : List (Numbered ℕ T)) (cells : List (Numbered Position T)) where
  -- of what is found for its column, its row and itself the newest is the value at a position
  pub value_found : (value : T) (p : Position) → AreRising nat_cmp (keys_of columns) → AreRising nat_cmp (keys_of rows) → AreRising position_cmp (keys_of cells) →
      (a b c : Option (ℕ × T)) → IsFound nat_cmp columns p.col a → IsFound nat_cmp rows p.row b → IsFound position_cmp cells p c →
      value_after value (in_order (calls_for columns rows cells)) p ≡ value_or value (later a (later b c))
  value_found value p in_columns in_rows in_cells a b c of_column of_row of_cell =
      let first = newest_found nat_cmp nat_cmp_total same_number Column columns p p.col (column_names p) in_columns a of_column in
      let second = newest_found nat_cmp nat_cmp_total same_number Row rows p p.row (row_names p) in_rows b of_row in
      let third = newest_found position_cmp position_total same_position cell_at cells p p (cell_names p) in_cells c of_cell in
      value_in_order value (calls_for columns rows cells) p
      ∙ ap (value_or value) (
      newest-append (map (call_for Column) columns) (map (call_for Row) rows ++ map (call_for cell_at) cells) p
      ∙ ap (later (newest (map (call_for Column) columns) p)) (newest-append (map (call_for Row) rows) (map (call_for cell_at) cells) p)
      ∙ ap₂ later first (ap₂ later second third)
      )

  module _ (n : ℕ) (below : AreBelow n (numbers (calls_for columns rows cells))) where
    all_below : AreBelow n (numbers_of columns ++ (numbers_of rows ++ numbers_of cells))
    all_below = subst (AreBelow n) (numbers_of_all columns rows cells) below

    abbrev pub P : ℕ → Type 0
    P k = k < n

    columns_below : AreBelow n (numbers_of columns)
    columns_below = each_left P (numbers_of columns) (numbers_of rows ++ numbers_of cells) all_below

    others_below : AreBelow n (numbers_of rows ++ numbers_of cells)
    others_below = each_right P (numbers_of columns) (numbers_of rows ++ numbers_of cells) all_below

    rows_below : AreBelow n (numbers_of rows)
    rows_below = each_left P (numbers_of rows) (numbers_of cells) others_below

    cells_below : AreBelow n (numbers_of cells)
    cells_below = each_right P (numbers_of rows) (numbers_of cells) others_below

    -- in the form that they have as calls
    calls_of_columns : AreBelow n (numbers (map (call_for Column) columns))
    calls_of_columns = subst (AreBelow n) (sym (numbers_for Column columns)) columns_below

    calls_of_rows : AreBelow n (numbers (map (call_for Row) rows))
    calls_of_rows = subst (AreBelow n) (sym (numbers_for Row rows)) rows_below

    calls_of_others : AreBelow n (numbers (map (call_for Row) rows ++ map (call_for cell_at) cells))
    calls_of_others = each_right P (numbers (map (call_for Column) columns)) (numbers (map (call_for Row) rows ++ map (call_for cell_at) cells))
        (subst (AreBelow n) (map-append (λ (call : Call T). call.0) (map (call_for Column) columns) (map (call_for Row) rows ++ map (call_for cell_at) cells)) below)

    calls_of_cells : AreBelow n (numbers (map (call_for cell_at) cells))
    calls_of_cells = subst (AreBelow n) (sym (numbers_for cell_at cells)) cells_below

together : {T : Type 0} (n : ℕ) (columns rows : List (Numbered ℕ T)) (cells : List (Numbered Position T)) → AreBelow n (numbers_of columns) → AreBelow n (numbers_of rows) → AreBelow n (numbers_of cells) →
    AreBelow n (numbers (calls_for columns rows cells))
together n columns rows cells first second third =
    subst (AreBelow n) (sym (numbers_of_all columns rows cells))
    (each_append (λ k. k < n) (numbers_of columns) (numbers_of rows ++ numbers_of cells) first (each_append (λ k. k < n) (numbers_of rows) (numbers_of cells) second third))

module _ {T : Type 0} (columns rows : List (Numbered ℕ T)) (cells : List (Numbered Position T)) where
  abbrev pub old : List (Call T)
  old = calls_for columns rows cells

  -- one more call, for a column
  module _ (columns' : List (Numbered ℕ T)) (one : Numbered ℕ T) (keeps : Keeps nat_cmp columns columns' one) (kept : AreKept one.number columns rows cells) where
    pub column_added : AddsCall (in_order old) (in_order (calls_for columns' rows cells)) (Column one.key) one.value
    column_added start p = value_of_newer start old (calls_for columns' rows cells) (one.number, (Column one.key, one.value)) p
        (newer_left (covers (Column one.key) p) (one.number, one.value) (map (call_for Column) columns) (map (call_for Column) columns') (map (call_for Row) rows ++ map (call_for cell_at) cells) p
        (newest_kept nat_cmp nat_cmp_total same_number Column columns columns' one p keeps (columns_below columns rows cells one.number kept.below)) (calls_of_others columns rows cells one.number kept.below))

    pub column_kept : AreKept (one.number + 1) columns' rows cells
    column_kept = record {
      columns = rising_kept nat_cmp nat_cmp_total same_number Column columns columns' one keeps kept.columns;
      rows = kept.rows;
      cells = kept.cells;
      below = together (one.number + 1) columns' rows cells
          (below_kept nat_cmp nat_cmp_total same_number Column columns columns' one keeps (columns_below columns rows cells one.number kept.below))
          (below_weaker one.number (one.number + 1) (omega arith) (numbers_of rows) (rows_below columns rows cells one.number kept.below))
          (below_weaker one.number (one.number + 1) (omega arith) (numbers_of cells) (cells_below columns rows cells one.number kept.below));
    }

  -- for a row
  module _ (rows' : List (Numbered ℕ T)) (one : Numbered ℕ T) (keeps : Keeps nat_cmp rows rows' one) (kept : AreKept one.number columns rows cells) where
    pub row_added : AddsCall (in_order old) (in_order (calls_for columns rows' cells)) (Row one.key) one.value
    row_added start p = value_of_newer start old (calls_for columns rows' cells) (one.number, (Row one.key, one.value)) p
        (newer_right (covers (Row one.key) p) (one.number, one.value) (map (call_for Column) columns) (map (call_for Row) rows ++ map (call_for cell_at) cells) (map (call_for Row) rows' ++ map (call_for cell_at) cells) p
        (newer_left (covers (Row one.key) p) (one.number, one.value) (map (call_for Row) rows) (map (call_for Row) rows') (map (call_for cell_at) cells) p
        (newest_kept nat_cmp nat_cmp_total same_number Row rows rows' one p keeps (rows_below columns rows cells one.number kept.below)) (calls_of_cells columns rows cells one.number kept.below))
        (calls_of_columns columns rows cells one.number kept.below))

    pub row_kept : AreKept (one.number + 1) columns rows' cells
    row_kept = record {
      columns = kept.columns;
      rows = rising_kept nat_cmp nat_cmp_total same_number Row rows rows' one keeps kept.rows;
      cells = kept.cells;
      below = together (one.number + 1) columns rows' cells
          (below_weaker one.number (one.number + 1) (omega arith) (numbers_of columns) (columns_below columns rows cells one.number kept.below))
          (below_kept nat_cmp nat_cmp_total same_number Row rows rows' one keeps (rows_below columns rows cells one.number kept.below))
          (below_weaker one.number (one.number + 1) (omega arith) (numbers_of cells) (cells_below columns rows cells one.number kept.below));
    }

  -- for a cell
  module _ (cells' : List (Numbered Position T)) (one : Numbered Position T) (keeps : Keeps position_cmp cells cells' one) (kept : AreKept one.number columns rows cells) where
    pub cell_added : AddsCall (in_order old) (in_order (calls_for columns rows cells')) (cell_at one.key) one.value
    cell_added start p = value_of_newer start old (calls_for columns rows cells') (one.number, (cell_at one.key, one.value)) p
        (newer_right (covers (cell_at one.key) p) (one.number, one.value) (map (call_for Column) columns) (map (call_for Row) rows ++ map (call_for cell_at) cells) (map (call_for Row) rows ++ map (call_for cell_at) cells') p
        (newer_right (covers (cell_at one.key) p) (one.number, one.value) (map (call_for Row) rows) (map (call_for cell_at) cells) (map (call_for cell_at) cells') p
        (newest_kept position_cmp position_total same_position cell_at cells cells' one p keeps (cells_below columns rows cells one.number kept.below)) (calls_of_rows columns rows cells one.number kept.below))
        (calls_of_columns columns rows cells one.number kept.below))

    pub cell_kept : AreKept (one.number + 1) columns rows cells'
    cell_kept = record {
      columns = kept.columns;
      rows = kept.rows;
      cells = rising_kept position_cmp position_total same_position cell_at cells cells' one keeps kept.cells;
      below = together (one.number + 1) columns rows cells'
          (below_weaker one.number (one.number + 1) (omega arith) (numbers_of columns) (columns_below columns rows cells one.number kept.below))
          (below_weaker one.number (one.number + 1) (omega arith) (numbers_of rows) (rows_below columns rows cells one.number kept.below))
          (below_kept position_cmp position_total same_position cell_at cells cells' one keeps (cells_below columns rows cells one.number kept.below));
    }

  -- the same calls with other numbers
  pub renumbered_kept : (next : ℕ) (columns' rows' : List (Numbered ℕ T)) (cells' : List (Numbered Position T)) → AreRenumbered columns rows cells columns' rows' cells' →
      AreRising nat_cmp (keys_of columns) → AreRising nat_cmp (keys_of rows) → AreRising position_cmp (keys_of cells) → AreBelow next (numbers (calls_for columns' rows' cells')) → AreKept next columns' rows' cells'
  renumbered_kept next columns' rows' cells' same in_columns in_rows in_cells below = record {
    columns = subst (AreRising nat_cmp) (sym same.columns) in_columns;
    rows = subst (AreRising nat_cmp) (sym same.rows) in_rows;
    cells = subst (AreRising position_cmp) (sym same.cells) in_cells;
    below = below;
  }

-- what holds in any case holds where there is an error
pub refused_where : {T E P : Type 0} → (r : Result T E) → P → OnErr r P
refused_where (Ok x) it = tt
refused_where (Err e) it = it

-- numbers below the first one are none
pub none_numbered : {T : Type 0} (next : ℕ) (calls : List (Call T)) → next ≡ 0 → AreBelow next (numbers calls) → in_order calls ≡ []
none_numbered next [] is below = refl
none_numbered next (call ∷ calls) is below = absurd (let lt : call.0 < next = below.0 in omega arith)

-- nothing is kept
pub none_kept : {T : Type 0} (columns rows : List (Numbered ℕ T)) (cells : List (Numbered Position T)) → columns ≡ [] → rows ≡ [] → cells ≡ [] → AreKept 0 columns rows cells
none_kept columns rows cells no_columns no_rows no_cells =
    rw (no_columns, no_rows, no_cells) (record {
      columns = λ i j d lt inside. absurd (omega arith);
      rows = λ i j d lt inside. absurd (omega arith);
      cells = λ i j d lt inside. absurd (omega arith);
      below = tt;
    })

pub no_calls : {T : Type 0} (columns rows : List (Numbered ℕ T)) (cells : List (Numbered Position T)) → columns ≡ [] → rows ≡ [] → cells ≡ [] → in_order (calls_for columns rows cells) ≡ []
no_calls columns rows cells no_columns no_rows no_cells = rw (no_columns, no_rows, no_cells) refl
