-- The sizes of a table's content, by the rows that are read ahead, which are called sniffed. They are the numbers that
-- are set, or else what those rows need.
use Rattle.std.specs.Prelude.{ℕ, List, Option, None, Some, length, map, max, take}
use Rattle.std.specs.List.{range_with_len}
use Rattle.grid_records_estimate.specs.Estimates.{greatest}
use Rattle.grid_records_traits.specs.TextLines.{text_height}
use Rattle.tabled_compact.specs.Columns.{column_width}
use Rattle.tabled_size.specs.Dimension.Sizes.{GivenSizes, Alike, Listed, ListedBefore}

-- as many columns as are set, or as the longest sniffed row has cells
abbrev pub columns_or : Option ℕ → List (List (List ℕ)) → ℕ
columns_or (Some count) sniffed = count
columns_or None sniffed = greatest (map length sniffed)

-- every column has the width that is set
abbrev pub widths_or : Option ℕ → ℕ → List (List (List ℕ)) → GivenSizes
widths_or (Some width) columns sniffed = Alike width
widths_or None columns sniffed = Listed (map (column_width sniffed) (range_with_len 0 columns))

-- a row is as high as its highest text in these columns, and has a line at least
abbrev pub row_height : ℕ → List (List ℕ) → ℕ
row_height columns row = max 1 (greatest (map text_height (take columns row)))

-- every row has the height that is set. Else, where a width is set, it has one line. Else a sniffed row has its own
-- height, and a row after these has one line
abbrev pub heights_or : Option ℕ → Option ℕ → ℕ → List (List (List ℕ)) → GivenSizes
heights_or (Some height) width columns sniffed = Alike height
heights_or None (Some width) columns sniffed = Alike 1
heights_or None None columns sniffed = ListedBefore (map (row_height columns) sniffed) 1
