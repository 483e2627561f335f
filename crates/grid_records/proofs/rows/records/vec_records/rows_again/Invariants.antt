use Rattle.std.proofs.Common.{◌≡◌, take}
use Rattle.grid_records_traits.specs.Sources.{texts_of_rows}
use Rattle.grid_records.proofs.rows.records.vec_records.rows_again.Given as goal

abbrev pub invariant-loop-row : goal.invariant-loop-row
invariant-loop-row l = texts_of_rows (λ text. text) l.copy.items ≡ texts_of_rows (λ text. text) (take l.row-index l.rows)
