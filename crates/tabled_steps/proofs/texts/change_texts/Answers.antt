use Rattle.std.proofs.lemmas.List.Elements.{All-same}
use Rattle.grid_config_values.specs.Entities.{covered_positions}
use Rattle.std.proofs.Common.{length}
use Rattle.grid_records_traits.specs.Rows.{HasCell}
use Rattle.grid_records_traits.specs.Sources.{texts_of_rows}
use Rattle.tabled_steps.specs.Changes.{Change, changes}
use Rattle.tabled_steps.specs.States.{column_count}
use Rattle.tabled_steps.proofs.Changing.{changes_inside}
use Rattle.tabled_steps.proofs.texts.change_texts.Goals as goal

pub set_all-requires : goal.set_all-requires
set_all-requires g c =
    let text = g.T.Cell.text in
    let changed = g.X.TextChange.changed c.args.change.now in
    let rows = texts_of_rows text c.args.records.now.rows.items in
    All-same (λ (it : Change). HasCell rows it.0) c.in_ok-found.found.items (changes changed rows (covered_positions c.args.entity (length rows) (column_count rows))) c.in_ok-found.ensures
    (changes_inside text changed c.args.records.now.rows.items c.args.entity c.args.records.now.equally_long)
