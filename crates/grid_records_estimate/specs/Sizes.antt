-- The sizes of a table, and how much it takes as a whole.
use Rattle.std.specs.Prelude.{◌≡◌, ℕ, ◌⊎◌, List, length}
use Rattle.grid_config_values.specs.declared.fault.Fault.{Fault}
use Rattle.grid_config_values.specs.declared.fault.Fault.TheVariants.{Memory, Range}
use Rattle.grid_config.specs.Glyphs.{boundary_count, has_column_boundary, has_row_boundary}
use Rattle.grid_records_traits.specs.Rows.{evened}
use Rattle.grid_records_estimate.specs.Estimates.{track_sizes}
use Rattle.grid_records_estimate.specs.Sizing.{TableSizing, column_needs, row_needs}
use Rattle.grid_records_estimate.specs.Totals.{total}

-- the least widths of `columns` columns, and the least heights of the rows, each row with as many texts; none of either
-- in a table without rows or columns
unfoldable pub table_widths : TableSizing → ℕ → List (List (List ℕ)) → List ℕ
table_widths sizing columns rows = track_sizes (column_needs sizing columns (evened columns rows))

unfoldable pub table_heights : TableSizing → ℕ → List (List (List ℕ)) → List ℕ
table_heights sizing columns rows = track_sizes (row_needs sizing columns (evened columns rows))

-- the columns that the table takes with its boundaries and margins
abbrev pub width_total : TableSizing → ℕ → List (List (List ℕ)) → ℕ
width_total sizing columns rows =
    total (table_widths sizing columns rows) (boundary_count (has_column_boundary sizing.borders) columns) sizing.margin.left.size sizing.margin.right.size

-- the lines that it takes
abbrev pub height_total : TableSizing → ℕ → List (List (List ℕ)) → ℕ
height_total sizing columns rows =
    total (table_heights sizing columns rows) (boundary_count (has_row_boundary sizing.borders) (length rows)) sizing.margin.top.size sizing.margin.bottom.size

-- the refusals of an estimate: `Memory`, and `Range` where a size passes the greatest `usize`
abbrev pub IsRefusal : Fault → Type 0 → Type 0
IsRefusal fault passes = (fault ≡ Memory) ⊎ ((fault ≡ Range) × passes)
