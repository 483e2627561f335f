-- Columns, and the places at which a priority takes them.
use Rattle.std.specs.Prelude.{ℕ, ◌+◌, ◌-◌, ◌==◌, ◌&&◌, ◌||◌, nat_lt, nat_le, Bool, List, length, slice_index, if◌then◌else◌}
use Rattle.std.specs.List.{range_with_len, count_by}

-- the columns of a list of sizes
abbrev pub column_numbers : List ℕ → List ℕ
column_numbers sizes = range_with_len 0 (length sizes)

-- the place of a column, of `count` columns: how many come before it, from the right or from the left
abbrev pub from_side : Bool → ℕ → ℕ → ℕ
from_side right count column = if right then count - 1 - column else column

-- in a round that begins at a column
abbrev pub from_column : ℕ → ℕ → ℕ → ℕ
from_column start count column = if nat_le start column then column - start else column + count - start

-- whether a column is narrower than another, or as wide and nearer to the side
abbrev pub is_narrower : Bool → List ℕ → ℕ → ℕ → Bool
is_narrower right widths other column =
    nat_lt (slice_index widths other) (slice_index widths column)
    || slice_index widths other == slice_index widths column && nat_lt (from_side right (length widths) other) (from_side right (length widths) column)

-- in order of width, equal widths by the side
abbrev pub by_width : Bool → List ℕ → ℕ → ℕ
by_width right widths column = count_by (λ other. is_narrower right widths other column) (column_numbers widths)
