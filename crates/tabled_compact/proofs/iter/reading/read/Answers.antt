use Rattle.std.proofs.Common.{[], ◌∷◌, ◌++◌, drop, length, map, vec_items, ap, sym, ◌∙◌}
use Rattle.grid_records_traits.proofs.Loops.{next_given, none_given}
use Rattle.grid_records.proofs.RowsLemmas.Keeping.{kept_all, kept_more}
use Rattle.tabled_compact.proofs.iter.reading.read.Goals as goal

pub read_row-requires-clause-can : goal.read_row-requires-clause-can
read_row-requires-clause-can g c =
    let n = next_given c.loop-cells.yielded c.in-Some.cells _ c.loop-cells.cells-iterator c.next.new.self (g.met.R.IntoRecords.gives c.iter_rows-cells-items.result)
    c.into_iter-cells-iterator.ensures.into_iter_gives c.loop-cells.yielded_by c.in-Some.ensures.steps in
    n.tied.can_next

pub read_row-requires-clause-ends : goal.read_row-requires-clause-ends
read_row-requires-clause-ends g c =
    let n = next_given c.loop-cells.yielded c.in-Some.cells _ c.loop-cells.cells-iterator c.next.new.self (g.met.R.IntoRecords.gives c.iter_rows-cells-items.result)
    c.into_iter-cells-iterator.ensures.into_iter_gives c.loop-cells.yielded_by c.in-Some.ensures.steps in
    n.tied.ends

pub loop-cells-preserved : goal.loop-cells-preserved
loop-cells-preserved g c =
    let n = next_given c.loop-cells.yielded c.in-Some.cells _ c.loop-cells.cells-iterator c.next.new.self (g.met.R.IntoRecords.gives c.iter_rows-cells-items.result)
    c.into_iter-cells-iterator.ensures.into_iter_gives c.loop-cells.yielded_by c.in-Some.ensures.steps in
    let all = g.R.RecordTexts.rows c.args.source in
    let same = c.iter_rows-cells-items.ensures.rows in
    kept_more (λ row. map g.R.Cell.Cell.text (vec_items row)) c.loop-cells.rows.items _ c.in_ok-read_row.field-0 _ _ all c.in_ok-push.ensures.items c.loop-cells.invariant
    (sym (ap (drop (length c.loop-cells.yielded)) same) ∙ n.next
    ∙ ap (λ v. n.element ∷ drop (length (c.loop-cells.yielded ++ c.in-Some.cells ∷ [])) v) same
    ∙ ap (λ v. v ∷ drop (length (c.loop-cells.yielded ++ c.in-Some.cells ∷ [])) all) (sym (c.in_ok-read_row.ensures.texts n.element _ n.tied)))

pub returns : goal.returns
returns g c =
    let none = none_given c.loop-cells.yielded _ c.loop-cells.cells-iterator c.next.new.self (g.met.R.IntoRecords.gives c.iter_rows-cells-items.result)
    c.into_iter-cells-iterator.ensures.into_iter_gives c.loop-cells.yielded_by c.in-None.ensures.steps in
    kept_all _ _ (g.R.RecordTexts.rows c.args.source) c.loop-cells.invariant (sym (ap (drop (length c.loop-cells.yielded)) c.iter_rows-cells-items.ensures.rows) ∙ none)
