-- The rows that came so far, filled.
use Rattle.std.proofs.Common.{◌≡◌, map}
use Rattle.grid_records_traits.specs.Sources.{texts_of_rows}
use Rattle.tabled_text.specs.Rows.{filled_row}
use Rattle.tabled.proofs.makers.of_cells.filled_rows.Given as goal

abbrev pub invariant-loop-row : goal.invariant-loop-row
invariant-loop-row g l = texts_of_rows g.T.Cell.text l.cells.items ≡ map (filled_row l.columns) (texts_of_rows g.T.Cell.text l.yielded)
