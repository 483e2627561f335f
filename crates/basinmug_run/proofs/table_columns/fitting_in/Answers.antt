-- The columns that fit, by what they need.
use Rattle.std.proofs.Common.{◌∙◌, ap, List, Bool}
use Rattle.basinmug_cells.specs.Views.{view_rows}
use Rattle.basinmug_columns.specs.Shown.{columns_that_fit}
use Rattle.basinmug_columns.specs.declared.rooms.Need.{Need}
use Rattle.basinmug_run.specs.Picture.Pictures.{needs_in}
use Rattle.basinmug_run.proofs.table_columns.fitting_in.Goals as goal

pub returns-clause-shown : goal.returns-clause-shown
returns-clause-shown c =
    let options = c.args.options.now in
    let rows = view_rows c.args.rows in
    let columns = c.args.columns.now in
    c.in_ok-shown.ensures
    ∙ ap (λ (it : List Need). columns_that_fit it c.is_lined-lined.result c.args.width columns) (c.as_slice-needs.ensures.value ∙ c.in_ok-facts.ensures.needs)
    ∙ ap (λ (it : Bool). columns_that_fit (needs_in options.header rows) it c.args.width columns) c.is_lined-lined.ensures
