-- The cells so far are counted.
use Rattle.std.proofs.Common.{◌≡◌}
use Rattle.tabled_height.specs.Heights.{row_lines}
use Rattle.tabled_height.proofs.height.row_lines.Given as goal

abbrev pub invariant-loop-column : goal.invariant-loop-column
invariant-loop-column g l = l.most ≡ row_lines l.column (g.R.RecordTexts.rows l.records) l.row
