use Rattle.std.proofs.Common.{◌≡◌}
use Rattle.grid_records_traits.specs.Sources.{texts_of_rows}
use Rattle.tabled_text.specs.Rows.{text_rows}
use Rattle.tabled.proofs.cells.texts_of.Given as goal

abbrev pub invariant-loop-row : goal.invariant-loop-row
invariant-loop-row l = text_rows l.rows.items ≡ texts_of_rows (λ text. text) l.yielded
