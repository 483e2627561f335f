use Rattle.std.proofs.Common.{◌≡◌, take}
use Rattle.tabled_text.specs.Rows.{text_rows}
use Rattle.basinmug_cells.proofs.texts.texts_of.Given as goal

abbrev pub invariant-loop-row : goal.invariant-loop-row
invariant-loop-row g l = text_rows l.texts.items ≡ take l.row (g.R.CellRows.rows l.rows)
