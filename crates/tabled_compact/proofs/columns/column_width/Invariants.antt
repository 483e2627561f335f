use Rattle.std.proofs.Common.{◌≡◌, drop, map, max}
use Rattle.tabled_compact.specs.Columns.{column_width}
use Rattle.tabled_compact.proofs.columns.column_width.Given as goal

abbrev pub invariant-loop-row : goal.invariant-loop-row
invariant-loop-row g l = max l.widest (column_width (map (λ row. map g.T.Cell.text row) (drop l.row-index l.rows)) l.column) ≡ column_width (map (λ row. map g.T.Cell.text row) l.rows) l.column
