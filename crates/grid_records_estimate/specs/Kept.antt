-- The sizes that a dimension keeps.
use Rattle.std.specs.Prelude.{ℕ, List, []}
use Rattle.grid_records_estimate.specs.Sizes.{table_heights, table_widths}
use Rattle.grid_records_estimate.specs.Sizing.{TableSizing}

-- of each column and row by its number; after the last every size is 0
pub record LeastSizes : Type 0 where
  pub widths : List ℕ
  pub heights : List ℕ

abbrev pub none_kept : LeastSizes
none_kept = record { widths = []; heights = [] }

-- the least sizes of a table
abbrev pub least_sizes : TableSizing → ℕ → List (List (List ℕ)) → LeastSizes
least_sizes sizing columns rows = record { widths = table_widths sizing columns rows; heights = table_heights sizing columns rows }
