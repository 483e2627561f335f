use Rattle.std.proofs.Common.{◌≡◌, map, slice_index}
use Rattle.std.specs.List.{range_with_len}
use Rattle.tabled_width.proofs.tables.table_sizes.column_widths.Given as goal

abbrev pub invariant-loop-column : goal.invariant-loop-column
invariant-loop-column l = l.list.items ≡ map (λ column. slice_index l.widths column) (range_with_len 0 l.column)
