-- The texts that are left to set are there, and with them the rows are as they will be.
use Rattle.std.proofs.Common.{◌≡◌}
use Rattle.grid_records_traits.specs.Sources.{texts_of_rows}
use Rattle.tabled_steps.specs.Changes.{AreInside, with_all}
use Rattle.tabled_steps.proofs.texts.set_all.Given as goal

abbrev pub invariant-loop-pos : goal.invariant-loop-pos
invariant-loop-pos g l =
    let texts = texts_of_rows g.T.Cell.text in
    record {
      inside : AreInside (texts l.records.rows.items) l.found.items;
      rows : with_all l.found.items (texts l.records.rows.items) ≡ with_all l.initial.found.items (texts l.initial.records.rows.items);
    }

abbrev pub decreases-loop-pos : goal.decreases-loop-pos
decreases-loop-pos g l = goal.left-loop-pos g l
