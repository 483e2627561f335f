-- The columns that the table may have, and those of them that it has.
use Rattle.std.proofs.Common.{◌∙◌, ap, length}
use Rattle.basinmug_cells.specs.Views.{view_rows}
use Rattle.basinmug_run.specs.Columns.{fitting_of, fitting_width}
use Rattle.basinmug_run.proofs.table_columns.columns_of_table.Goals as goal

pub returns-clause-shown : goal.returns-clause-shown
returns-clause-shown c =
    let options = c.args.options.now in
    c.in_ok-fitting.ensures.shown ∙ ap (fitting_of options (view_rows c.args.rows) (fitting_width options)) c.in_ok-wanted.ensures

pub returns-clause-all : goal.returns-clause-all
returns-clause-all c = c.len-all.ensures ∙ c.in_ok-wanted.wanted.ok.0 ∙ ap length c.in_ok-wanted.ensures
