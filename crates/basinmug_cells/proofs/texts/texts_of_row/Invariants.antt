use Rattle.std.proofs.Common.{◌≡◌, map, string_bytes, take}
use Rattle.basinmug_cells.proofs.texts.texts_of_row.Given as goal

abbrev pub invariant-loop-column : goal.invariant-loop-column
invariant-loop-column g l = map string_bytes l.texts.items ≡ take l.column (g.R.CellRow.texts l.row)
