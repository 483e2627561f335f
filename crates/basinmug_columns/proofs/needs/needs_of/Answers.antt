use Rattle.basinmug_columns.proofs.NumbersLemmas.Texts.{next_mapped}
use Rattle.basinmug_columns.specs.Needs.{need_of}
use Rattle.basinmug_columns.proofs.needs.needs_of.Goals as goal

pub loop-column-preserved : goal.loop-column-preserved
loop-column-preserved g c =
    next_mapped (need_of (g.H.CellRow.texts c.args.header) (g.R.CellRows.rows c.args.records) c.args.numeric.now) c.loop-column.column _ _ _ c.in_ok-push.ensures.items c.loop-column.invariant c.in_ok-need_of.ensures
