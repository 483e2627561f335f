use Rattle.tabled_height.specs.Heights.{row_lines}
use Rattle.tabled_height.proofs.Counting.{one_more}
use Rattle.tabled_height.proofs.height.most_lines.Goals as goal

pub loop-row-preserved : goal.loop-row-preserved
loop-row-preserved g c =
    one_more (row_lines (g.R.RecordColumns.columns c.args.records.now) (g.R.RecordTexts.rows c.args.records.now)) c.loop-row.row c.loop-row.most c.max-most.result c.row_lines.result
    c.loop-row.invariant c.row_lines.ensures c.max-most.ensures
