use Rattle.std.proofs.Common.{◌≡◌, drop, max}
use Rattle.tabled_text.specs.Rows.{longest}
use Rattle.basinmug_cells.proofs.cell_rows.longest.Given as goal

abbrev pub invariant-loop-row : goal.invariant-loop-row
invariant-loop-row g l = max l.most (longest (drop l.row (g.R.CellRows.rows l.rows))) ≡ longest (g.R.CellRows.rows l.rows)
