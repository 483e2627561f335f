-- The rows so far are copied.
use Rattle.std.proofs.Common.{◌≡◌, take}
use Rattle.tabled_text.specs.Rows.{text_rows}
use Rattle.tabled_expanded.proofs.table.copied_rows.Given as goal

abbrev pub invariant-loop-row : goal.invariant-loop-row
invariant-loop-row l = text_rows l.out.items ≡ text_rows (take l.row-index l.row-items)
