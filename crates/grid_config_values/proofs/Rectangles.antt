-- The places of a table that an entity covers are a rectangle.
use Rattle.std.proofs.Common.{◌≡◌, ℕ, zero, suc, ◌+◌, ◌<◌, Bool, true, false, ◌&&◌, ◌==◌, if◌then◌else◌, List, [], ◌∷◌, Option, None, Some, refl, ap, sym, ◌∙◌, arith, nat_lt, ◌-◌, ◌≤◌}
use Rattle.std.proofs.lemmas.Bool.Decides.{nat_tests}
use Rattle.std.proofs.lemmas.List.Elements.{filter-append}
use Rattle.std.specs.List.{filter, range_with_len}
use Rattle.std.specs.declared.ops.Range.{Range}
use Rattle.grid_config_values.specs.declared.entity.Entity.{Entity}
use Rattle.grid_config_values.specs.declared.entity.Entity.TheVariants.{Column, Row}
use Rattle.grid_config_values.specs.declared.position.Position.{Position}
use Rattle.grid_config_values.specs.Entities.{covers, covered_positions, table_positions}
use Rattle.grid_config_values.specs.Rectangles.{is_named, row_places, numbers, places_from, rectangle}

-- every number is kept
pub filter_all : (xs : List ℕ) → filter (λ _. true) xs ≡ xs
filter_all [] = refl
filter_all (x ∷ xs) = ap (λ ys. x ∷ ys) (filter_all xs)

-- below the range, or after it, no number is the one
pub filter_one_outside : (name a n : ℕ) → name < a → filter (λ x. x == name) (range_with_len a n) ≡ []
filter_one_outside name a zero below = refl
filter_one_outside name a (suc n) below = grind (arith, nat_tests, filter_one_outside name (a + 1) n (omega arith))

pub filter_one : (name a n : ℕ) → a ≤ name → filter (λ x. x == name) (range_with_len a n) ≡ (if nat_lt name (a + n) then name ∷ [] else [])
filter_one name a zero above = grind (arith, nat_tests)
filter_one name a (suc n) above = grind (arith, nat_tests, filter_one name (a + 1) n, filter_one_outside name (a + 1) n)

module _ (rows_test cols_test : ℕ → Bool) where
  abbrev in_both : Position → Bool
  in_both p = rows_test p.row && cols_test p.col

  in_row_kept : (row : ℕ) (cols : List ℕ) → rows_test row ≡ true → filter in_both (row_places row cols) ≡ row_places row (filter cols_test cols)
  in_row_kept row [] e = refl
  in_row_kept row (col ∷ cols) e = grind (arith, in_row_kept row cols e)

  in_row_dropped : (row : ℕ) (cols : List ℕ) → rows_test row ≡ false → filter in_both (row_places row cols) ≡ []
  in_row_dropped row [] e = refl
  in_row_dropped row (col ∷ cols) e = grind (arith, in_row_dropped row cols e)

  -- a test of the row and a test of the column pick a rectangle
  pub filter-rectangle : (rows cols : List ℕ) → filter in_both (rectangle rows cols) ≡ rectangle (filter rows_test rows) (filter cols_test cols)
  filter-rectangle [] cols = refl
  filter-rectangle (row ∷ rows) cols = grind (arith, filter-append in_both (row_places row cols) (rectangle rows cols), in_row_kept row cols, in_row_dropped row cols, filter-rectangle rows cols)

  -- the places of a table at which both tests hold
  pub filter-table_positions : (rows cols : ℕ) → filter in_both (table_positions rows cols) ≡ rectangle (filter rows_test (range_with_len 0 rows)) (filter cols_test (range_with_len 0 cols))
  filter-table_positions rows cols = filter-rectangle (range_with_len 0 rows) (range_with_len 0 cols)

same_test : {X : Type 0} (p q : X → Bool) → ((x : X) → p x ≡ q x) → (xs : List X) → filter p xs ≡ filter q xs
same_test p q same [] = refl
same_test p q same (x ∷ xs) = grind (arith, same x, same_test p q same xs)

and_true : (b : Bool) → (b && true) ≡ b
and_true true = refl
and_true false = refl

-- an entity names a row, or none, and a column, or none
pub covered_by_names : (entity : Entity) (row col : Option ℕ) (rows cols : ℕ) → ((p : Position) → covers entity p ≡ (is_named row p.row && is_named col p.col)) →
    rectangle (filter (is_named row) (range_with_len 0 rows)) (filter (is_named col) (range_with_len 0 cols)) ≡ covered_positions entity rows cols
covered_by_names entity row col rows cols same =
    sym (same_test (covers entity) (λ p. is_named row p.row && is_named col p.col) same (table_positions rows cols) ∙ filter-table_positions (is_named row) (is_named col) rows cols)

pub covers_column : (c : ℕ) (p : Position) → covers (Column c) p ≡ (is_named None p.row && is_named (Some c) p.col)
covers_column c p = refl

pub covers_row : (r : ℕ) (p : Position) → covers (Row r) p ≡ (is_named (Some r) p.row && is_named None p.col)
covers_row r p = sym (and_true (p.row == r))

range_next : (a b : ℕ) → a < b → range_with_len a (b - a) ≡ a ∷ range_with_len (a + 1) (b - (a + 1))
range_next a b lt = let e : b - a ≡ suc (b - (a + 1)) = omega arith in rw e refl

range_none : (a b : ℕ) → b ≤ a → range_with_len a (b - a) ≡ []
range_none a b le = let e : b - a ≡ 0 = omega arith in rw e refl

rectangle_without_columns : (rows : List ℕ) → rectangle rows [] ≡ []
rectangle_without_columns [] = refl
rectangle_without_columns (row ∷ rows) = rectangle_without_columns rows

place : ℕ → ℕ → Position
place row col = record { row = row; col = col }

pub no_places_left : (row end_row col first_col end_col : ℕ) → end_row ≤ row → places_from row end_row col first_col end_col ≡ []
unfolding places_from
no_places_left row end_row col first_col end_col le = grind (arith, nat_tests)

-- another place in the row
pub places_in_row : (row end_row col first_col end_col : ℕ) → row < end_row → col < end_col →
    places_from row end_row col first_col end_col ≡ record { row = row; col = col } ∷ places_from row end_row (col + 1) first_col end_col
unfolding places_from
places_in_row row end_row col first_col end_col in_rows in_cols = grind (arith, nat_tests, range_next col end_col in_cols)

-- after the last place of a row the next one begins
pub places_below : (row end_row col first_col end_col : ℕ) → row < end_row → end_col ≤ col →
    places_from row end_row col first_col end_col ≡ places_from (row + 1) end_row first_col first_col end_col
unfolding places_from
places_below row end_row col first_col end_col in_rows out = grind (arith, nat_tests, range_none col end_col out, range_next (row + 1) end_row, range_none (row + 1) end_row)

-- all places
pub all_places : (rows cols : Range ℕ) (end_row : ℕ) → end_row ≡ (if nat_lt cols.start cols.end then rows.end else rows.start) →
    places_from rows.start end_row cols.start cols.start cols.end ≡ rectangle (numbers rows) (numbers cols)
unfolding places_from
all_places rows cols end_row e = grind (arith, nat_tests, e, range_next rows.start rows.end, range_none rows.start rows.end, range_none cols.start cols.end, rectangle_without_columns (numbers rows))
