-- The rows that came so far, filled.
use Rattle.std.proofs.Common.{◌≡◌, map}
use Rattle.tabled_text.specs.Rows.{filled_row, text_rows}
use Rattle.tabled_text.proofs.builder.Builder.into_rows.Given as goal

abbrev pub invariant-loop-row : goal.invariant-loop-row
invariant-loop-row l = text_rows l.rows.items ≡ map (filled_row l.columns) (text_rows l.yielded)
