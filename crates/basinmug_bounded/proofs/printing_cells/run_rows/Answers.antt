use Rattle.basinmug_bounded.proofs.OfRead.{nothing-printed, read-fault}
use Rattle.basinmug_run.proofs.PictureLemmas.Narrowed.{err-told, on-err}
use Rattle.basinmug_run.specs.Faults.{of_print}
use Rattle.basinmug_bounded.proofs.printing_cells.run_rows.Goals as goal

pub returns-in_err-printed-clause-front : goal.returns-in_err-printed-clause-front
returns-in_err-printed-clause-front g c = on-err c.from_residual.result _ c.in_err-printed.ensures.front

pub returns-in_err-printed-clause-untouched : goal.returns-in_err-printed-clause-untouched
returns-in_err-printed-clause-untouched g c =
    let fault = c.in_err-printed.field-0.0 in
    err-told c.from_residual.result (of_print fault) _ c.from_residual.ensures.1 (λ none. c.in_err-printed.ensures.untouched (nothing-printed fault none))

pub returns-in_err-printed-clause-refused : goal.returns-in_err-printed-clause-refused
returns-in_err-printed-clause-refused g c =
    let fault = c.in_err-printed.field-0.0 in
    err-told c.from_residual.result (of_print fault) _ c.from_residual.ensures.1 (read-fault c.args.options.now c.args.rows.rows fault c.in_err-printed.ensures.refused)
