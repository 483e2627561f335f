-- All columns, or those that fit.
use Rattle.std.proofs.Common.{◌∙◌, ap, ℕ, Option, Some}
use Rattle.std.proofs.lemmas.Result.{IfOk-weaker}
use Rattle.basinmug_cells.specs.Views.{view_rows}
use Rattle.basinmug_run.specs.Columns.{fitting_of}
use Rattle.basinmug_run.proofs.table_columns.fitting_columns.Goals as goal

pub returns-in-None-clause-shown : goal.returns-in-None-clause-shown
returns-in-None-clause-shown c = ap (λ (width : Option ℕ). fitting_of c.args.options.now (view_rows c.args.rows) width c.args.columns.items) c.in-None.ensures

pub returns-in-Some-clause-shown : goal.returns-in-Some-clause-shown
returns-in-Some-clause-shown c =
    let options = c.args.options.now in
    let rows = view_rows c.args.rows in
    IfOk-weaker c.fitting_in.result _ _
    (λ it is.
    is ∙ ap (fitting_of options rows (Some c.in-Some.width)) c.as_slice-wanted.ensures.value
    ∙ ap (λ (width : Option ℕ). fitting_of options rows width c.args.columns.items) c.in-Some.ensures) c.fitting_in.ensures.shown
