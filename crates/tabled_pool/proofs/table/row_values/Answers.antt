use Rattle.std.proofs.Common.{[], ◌∷◌, ◌++◌, drop, length, map, ap, sym, ◌∙◌}
use Rattle.grid_records_traits.proofs.Loops.{next_given, none_given}
use Rattle.grid_records.proofs.RowsLemmas.Keeping.{kept_all, kept_more}
use Rattle.tabled_pool.specs.Pools.{row_nesting}
use Rattle.tabled_pool.specs.Boxes.Values.{nesting_of}
use Rattle.tabled_pool.proofs.table.row_values.Goals as goal

pub read_row-requires-clause-can : goal.read_row-requires-clause-can
read_row-requires-clause-can g c =
    let n = next_given c.loop-cells.yielded c.in-Some.cells _ c.loop-cells.cells-iterator c.next.new.self (g.met.I.IntoRecords.gives c.iter_rows-cells-items.result)
    c.into_iter-cells-iterator.ensures.into_iter_gives c.loop-cells.yielded_by c.in-Some.ensures.steps in
    n.tied.can_next

pub read_row-requires-clause-ends : goal.read_row-requires-clause-ends
read_row-requires-clause-ends g c =
    let n = next_given c.loop-cells.yielded c.in-Some.cells _ c.loop-cells.cells-iterator c.next.new.self (g.met.I.IntoRecords.gives c.iter_rows-cells-items.result)
    c.into_iter-cells-iterator.ensures.into_iter_gives c.loop-cells.yielded_by c.in-Some.ensures.steps in
    n.tied.ends

pub loop-cells-preserved : goal.loop-cells-preserved
loop-cells-preserved g c =
    let n = next_given c.loop-cells.yielded c.in-Some.cells _ c.loop-cells.cells-iterator c.next.new.self (g.met.I.IntoRecords.gives c.iter_rows-cells-items.result)
    c.into_iter-cells-iterator.ensures.into_iter_gives c.loop-cells.yielded_by c.in-Some.ensures.steps in
    let all = g.I.RecordTexts.rows c.args.records in
    let same = c.iter_rows-cells-items.ensures.rows in
    let texts = c.in_ok-cells.ensures.texts n.element _ n.tied in
    kept_more nesting_of c.loop-cells.rows.items _ c.in_ok-row_value.field-0 _ _ (map row_nesting all) c.in_ok-push.ensures.items c.loop-cells.invariant
    (ap (map row_nesting)
    (sym (ap (drop (length c.loop-cells.yielded)) same) ∙ n.next
    ∙ ap (λ v. n.element ∷ drop (length (c.loop-cells.yielded ++ c.in-Some.cells ∷ [])) v) same)
    ∙ ap (λ l. l ∷ map row_nesting (drop (length (c.loop-cells.yielded ++ c.in-Some.cells ∷ [])) all)) (ap row_nesting (sym texts) ∙ (ap (λ l. row_nesting (map g.I.Cell.Cell.text l)) (sym c.deref.ensures.value) ∙ sym c.in_ok-row_value.ensures)))

pub returns : goal.returns
returns g c =
    let none = none_given c.loop-cells.yielded _ c.loop-cells.cells-iterator c.next.new.self (g.met.I.IntoRecords.gives c.iter_rows-cells-items.result)
    c.into_iter-cells-iterator.ensures.into_iter_gives c.loop-cells.yielded_by c.in-None.ensures.steps in
    kept_all _ _ (map row_nesting (g.I.RecordTexts.rows c.args.records)) c.loop-cells.invariant
    (ap (map row_nesting) (sym (ap (drop (length c.loop-cells.yielded)) c.iter_rows-cells-items.ensures.rows) ∙ none))
