use Rattle.std.proofs.Common.{◌≡◌, drop, max}
use Rattle.grid_records_traits.specs.Sources.{texts_of_rows}
use Rattle.tabled_compact.specs.Columns.{column_width}
use Rattle.tabled_compact.proofs.iter.content.column_width.Given as goal

abbrev pub invariant-loop-row : goal.invariant-loop-row
invariant-loop-row g l = max l.widest (column_width (texts_of_rows g.C.Cell.text (drop l.row-index l.sniffed)) l.column) ≡ column_width (texts_of_rows g.C.Cell.text l.sniffed) l.column
