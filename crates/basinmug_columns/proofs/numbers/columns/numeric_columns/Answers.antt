use Rattle.basinmug_columns.proofs.NumbersLemmas.Texts.{next_mapped}
use Rattle.basinmug_columns.specs.Numbers.Columns.{is_numeric}
use Rattle.basinmug_columns.proofs.numbers.columns.numeric_columns.Goals as goal

pub loop-column-preserved : goal.loop-column-preserved
loop-column-preserved g c =
    next_mapped (is_numeric (g.R.CellRows.rows c.args.records)) c.loop-column.column _ _ _ c.in_ok-push.ensures.items c.loop-column.invariant c.in_ok-is_numeric.ensures
