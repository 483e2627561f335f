use Rattle.std.proofs.Common.{◌≡◌, []}
use Rattle.tabled_text.specs.Rows.{text_rows}
use Rattle.basinmug_cells.specs.Held.{held}
use Rattle.basinmug_cells.proofs.texts.rows_of_texts.Given as goal

abbrev pub invariant-loop-row : goal.invariant-loop-row
invariant-loop-row l = l.rows ≡ held [] (text_rows l.yielded)
