-- Which columns are of numbers, by the rows.
use Rattle.std.proofs.lemmas.Result.{IfOk-weaker}
use Rattle.basinmug_cells.specs.Views.{view_rows}
use Rattle.basinmug_run.proofs.PictureLemmas.Tables.{numeric-is}
use Rattle.basinmug_run.proofs.picture.facts.numeric_in.Goals as goal

pub returns : goal.returns
returns c =
    IfOk-weaker c.numeric_columns.result _ _
    (λ numeric is. numeric-is c.args.header (view_rows c.args.rows) (view_rows c.records_of-records.result) c.longest.result numeric.items is c.records_of-records.ensures c.longest.ensures) c.numeric_columns.ensures
