-- The positions that an iterator over a rectangle has still to give.
use Rattle.std.specs.Prelude.{ℕ, ◌+◌, ◌-◌, ◌<◌, ◌≤◌, Bool, true, List, [], ◌++◌, map, ◌==◌, if◌then◌else◌, nat_lt, Option, None, Some}
use Rattle.std.specs.List.{flat_map, range_with_len}
use Rattle.std.specs.declared.ops.Range.{Range}
use Rattle.grid_config_values.specs.declared.position.Position.{Position}
use Rattle.grid_config_values.specs.declared.entity_iterator.EntityIterator.TheInside.{Inside}

-- whether a row or column is the one that is named; where none is named, each is
abbrev pub is_named : Option ℕ → ℕ → Bool
is_named None n = true
is_named (Some name) n = n == name

-- the numbers of a range
abbrev pub numbers : Range ℕ → List ℕ
numbers range = range_with_len range.start (range.end - range.start)

-- places in a row
abbrev pub row_places : ℕ → List ℕ → List Position
row_places row cols = map (λ col. record { row = row; col = col }) cols

-- the places in these rows and columns, by rows
abbrev pub rectangle : List ℕ → List ℕ → List Position
rectangle rows cols = flat_map (λ row. row_places row cols) rows

-- the places from this row and column on: what is left of the row, and the rows below it
unfoldable pub places_from : ℕ → ℕ → ℕ → ℕ → ℕ → List Position
places_from row end_row col first_col end_col =
    if nat_lt row end_row
    then row_places row (range_with_len col (end_col - col)) ++ rectangle (range_with_len (row + 1) (end_row - (row + 1))) (range_with_len first_col (end_col - first_col))
    else []

abbrev pub places_left : Inside → List Position
places_left fields = places_from fields.row fields.end_row fields.col fields.first_col fields.end_col

-- the next place, where there is one, is in the columns
pub record IsNextInside (fields : Inside) : Type 0 where
  pub left : fields.first_col ≤ fields.col
  pub right : fields.row < fields.end_row → fields.col < fields.end_col
