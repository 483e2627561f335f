use Rattle.std.proofs.Common.{◌≡◌, map}
use Rattle.std.specs.List.{range_with_len}
use Rattle.grid_records_traits.specs.Sources.{texts_of_rows}
use Rattle.tabled_compact.specs.Columns.{column_width}
use Rattle.tabled_compact.proofs.iter.content.column_widths.Given as goal

abbrev pub invariant-loop-column : goal.invariant-loop-column
invariant-loop-column g l = l.widths.items ≡ map (column_width (texts_of_rows g.C.Cell.text l.sniffed)) (range_with_len 0 l.column)
