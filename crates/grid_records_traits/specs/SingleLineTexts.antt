-- What a row of such cells holds.
use Rattle.std.specs.Prelude.{◌==◌, ℕ, Bool, List, length}
use Rattle.grid_records_traits.specs.SingleLines.{texts_at}
use Rattle.grid_records_traits.specs.declared.records.single_line_row.SingleLineRow.{SingleLineRow}

-- the texts of the row
abbrev pub single_line_texts : SingleLineRow → List (List ℕ)
single_line_texts row = texts_at row.text.now row.starts.now

-- no columns are given for its cells: each takes as many as it has bytes
abbrev pub are_plain : SingleLineRow → Bool
are_plain row = length row.widths.now == 0
