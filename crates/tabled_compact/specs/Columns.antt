-- The columns of rows by the texts that are in them.
use Rattle.std.specs.Prelude.{ℕ, List, [], ◌+◌, ◌-◌, ◌^◌, map, min, slice_index, slice_index_or}
use Rattle.std.specs.List.{range_with_len}
use Rattle.grid_records_estimate.specs.Estimates.{greatest}
use Rattle.grid_records_measure.specs.TextLines.{text_width}
use Rattle.tabled_compact.specs.Tables.{Compacted, begun}

-- the text of a row in a column, and after its last cell the empty one
abbrev pub text_in_column : List (List ℕ) → ℕ → List ℕ
text_in_column row column = slice_index_or row column []

-- a column is as wide as the widest text that the rows have in it
abbrev pub column_width : List (List (List ℕ)) → ℕ → ℕ
column_width rows column = greatest (map (λ row. text_width (text_in_column row column)) rows)

-- and 2 more, as far as a `usize` goes
abbrev pub spaced_width : List (List (List ℕ)) → ℕ → ℕ
spaced_width rows column = min (column_width rows column + 2) (2 ^ 64 - 1)

abbrev pub spaced_widths : ℕ → List (List (List ℕ)) → List ℕ
spaced_widths columns rows = map (spaced_width rows) (range_with_len 0 columns)

-- a table of rows of `columns` cells each that no call has changed yet: it has that many columns
abbrev pub begun_by_texts : ℕ → List (List (List ℕ)) → Compacted
begun_by_texts columns rows = record (begun rows (slice_index (spaced_widths columns rows))) { columns = columns }
