use Rattle.std.proofs.Common.{arith}
use Rattle.tabled_height.specs.Heights.{row_lines}
use Rattle.tabled_height.proofs.Counting.{one_fewer}
use Rattle.tabled_height.proofs.height.fewest_lines.Goals as goal

pub loop-row-preserved : goal.loop-row-preserved
loop-row-preserved g c =
    one_fewer (row_lines (g.R.RecordColumns.columns c.args.records.now) (g.R.RecordTexts.rows c.args.records.now)) c.loop-row.row (omega (arith, c.loop-row.auto.row)) c.loop-row.fewest c.min-fewest.result c.row_lines.result
    c.loop-row.invariant c.row_lines.ensures (omega (arith, c.min-fewest.ensures))
