-- What was found, and what the places that are left will add, are all changes.
use Rattle.std.proofs.Common.{◌≡◌, ◌++◌}
use Rattle.grid_records_traits.specs.Sources.{texts_of_rows}
use Rattle.tabled_steps.specs.Changes.{changes}
use Rattle.tabled_steps.proofs.texts.find_changes.Given as goal

abbrev pub invariant-loop-pos : goal.invariant-loop-pos
invariant-loop-pos g l =
    let rows = texts_of_rows g.T.Cell.text l.records.rows.items in
    let changed = g.X.TextChange.changed l.change in
    l.found.items ++ changes changed rows l.pos-iterator ≡ changes changed rows l.initial.pos-iterator
