-- What the columns of a table take.
use Rattle.std.specs.Prelude.{ℕ, List, length}
use Rattle.grid_config_values.specs.Glyphs.{boundary_count, has_column_boundary}
use Rattle.grid_config.specs.Looks.{Look}
use Rattle.grid_records_estimate.specs.Totals.{total}

-- the columns of these widths, with the boundaries that are there and the margins
abbrev pub width_with_columns : Look → List ℕ → ℕ
width_with_columns look widths = total widths (boundary_count (has_column_boundary look.borders) (length widths)) look.margin.left.size look.margin.right.size
