use Rattle.std.proofs.Common.{◌≡◌, length, map, take}
use Rattle.std.specs.List.{range_with_len}
use Rattle.tabled_compact.specs.Columns.{spaced_width}
use Rattle.tabled_compact.proofs.columns.widths_of.Given as goal

abbrev pub invariant-loop-column : goal.invariant-loop-column
invariant-loop-column g l =
    (length l.widths ≡ g.row.COLUMNS)
    × (take l.column l.widths ≡ map (spaced_width (map (λ row. map g.T.Cell.text row) l.rows)) (range_with_len 0 l.column))
