-- Where the source ends early, all its rows are kept.
use Rattle.std.proofs.Common.{◌∙◌, ◌++◌, ◌≤◌, ap, arith, length, map, sym, vec_items}
use Rattle.std.proofs.lemmas.List.{length-map}
use Rattle.grid_records_traits.specs.Sources.{texts_of_rows}
use Rattle.grid_records.proofs.RowsLemmas.Keeping.{kept_all, kept_fewer, none_left}
use Rattle.grid_records.proofs.rows.records.into_records.buf_records.BufRecords.new.Goals as goal

pub returns-in_default-clause-rows : goal.returns-in_default-clause-rows
returns-in_default-clause-rows g c =
    let none = none_left c.next.new.self (g.met.I.IntoRecords.gives c.loop.rest) c.in_default.ensures.steps in
    ap (λ v. texts_of_rows g.I.Cell.Cell.text c.loop.kept.items ++ v) (sym none) ∙ c.loop.invariant.rows ∙ c.iter_rows-rest.ensures.rows

pub returns-in_default-clause-kept : goal.returns-in_default-clause-kept
returns-in_default-clause-kept g c =
    let none = none_left c.next.new.self (g.met.I.IntoRecords.gives c.loop.rest) c.in_default.ensures.steps in
    let few : length (texts_of_rows g.I.Cell.Cell.text c.loop.kept.items) ≤ c.args.count =
    omega (arith, length-map c.loop.kept.items (λ row. map g.I.Cell.Cell.text (vec_items row)), c.loop.invariant.count, c.loop-test.true) in
    kept_fewer (texts_of_rows g.I.Cell.Cell.text c.loop.kept.items) _ c.args.count (kept_all _ _ _ c.loop.invariant.rows none ∙ c.iter_rows-rest.ensures.rows) few
