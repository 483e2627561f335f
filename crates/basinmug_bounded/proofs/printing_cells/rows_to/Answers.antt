use Rattle.std.proofs.Common.{ap}
use Rattle.basinmug_bounded.proofs.OfLent.{run-wrote}
use Rattle.basinmug_bounded.proofs.OfRead.{read-alone, read-begun}
use Rattle.basinmug_bounded.specs.CellOutputs.{IsReadFault}
use Rattle.basinmug_run.specs.Runs.{PrintsRows, PrintsRowsFront}
use Rattle.basinmug_bounded.proofs.printing_cells.rows_to.Goals as goal

pub returns : goal.returns
returns g c =
    let options = c.args.options.now in
    let rows = c.args.rows.rows in
    let given = c.new-counted.ensures.inner in
    let ran = c.run_rows-outcome in
    run-wrote (PrintsRows options rows) (PrintsRowsFront options rows) (IsReadFault options rows) (read-alone options rows) (read-begun options rows)
    g.W.Write.contents c.new-counted.result ran.new.writer ran.result ran.ensures.printed ran.ensures.front ran.ensures.untouched ran.ensures.refused
    _ _ _ c.into_inner-writer.result (ap (λ lent. lent.writer.ghost_name) given) (ap (λ lent. lent.writer.now) given) c.into_inner-writer.ensures c.writer-1.given.1
