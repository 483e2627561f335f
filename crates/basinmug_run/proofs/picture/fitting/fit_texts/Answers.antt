-- The rows that are taken are fitted, and given back.
use Rattle.std.proofs.Common.{◌∙◌, ap, List, ℕ}
use Rattle.grid_config_values.specs.declared.entity.Entity.TheVariants.{Global as EveryCell}
use Rattle.tabled_size.specs.Dimension.Stored.{none_stored}
use Rattle.tabled_steps.specs.Changes.{changed_rows}
use Rattle.tabled_steps.specs.States.{State, column_count}
use Rattle.tabled_text.specs.Rows.{filled}
use Rattle.basinmug_run.specs.Picture.Fitting.{fitted}
use Rattle.basinmug_run.specs.Picture.TableRows.{state_of}
use Rattle.basinmug_run.proofs.PictureLemmas.FittedCells.{texts-changed}
use Rattle.basinmug_run.proofs.picture.fitting.fit_texts.Goals as goal

pub returns-clause-fitted : goal.returns-clause-fitted
returns-clause-fitted c =
    let fitting = c.args.fitting.now in
    let truncate = fitting.truncate in
    let widths = fitting.widths.now in
    let rooms = fitting.rooms.now in
    let old : State = state_of c.args.table.now in
    let taken = c.take_rows-rows.result.rows in
    let new = c.fit_rows.new.rows.rows in
    c.set_rows.ensures
    ∙ ap (λ (s : State). record s { rows = filled new; sizes = none_stored }) c.take_rows-rows.ensures.others
    ∙ ap (λ (rows : List (List (List ℕ))). record old { rows = rows; sizes = none_stored })
    (ap filled c.in_ok-fit_rows.ensures ∙ texts-changed truncate widths rooms taken
    ∙ ap (λ (rows : List (List (List ℕ))). changed_rows (λ place. fitted truncate widths rooms place.col) EveryCell (column_count rows) rows) c.take_rows-rows.ensures.rows)
