-- With the rows that are left, the longest of all.
use Rattle.std.proofs.Common.{◌≡◌, drop, max}
use Rattle.tabled_text.specs.Rows.{longest, row_items}
use Rattle.tabled_text.proofs.builder.longest_row.Given as goal

abbrev pub invariant-loop-row : goal.invariant-loop-row
invariant-loop-row g l = max l.most (longest (row_items (drop l.row-index l.rows))) ≡ longest (row_items l.rows)
