use Rattle.grid_records.proofs.RowsLemmas.Keeping.{drained, kept_all, kept_more, one_kept}
use Rattle.grid_records_traits.proofs.Loops.{cells_more, next_text, none_text}
use Rattle.grid_records.proofs.rows.records.into_records.buf_records.read_row.Goals as goal

pub loop-cell-preserved : goal.loop-cell-preserved
loop-cell-preserved g c = record {
  are = cells_more c.loop-cell.yielded c.in-Some.cell c.in_ok-cell.field-0 c.loop-cell.invariant.are c.in_ok-cell.was;
  kept = one_kept c.loop-cell.yielded c.in-Some.cell c.in_ok-cell.field-0 c.loop-cell.row.items _ c.loop-cell.invariant.kept c.in_ok-cell.was c.in_ok-push.ensures.items;
  left = λ texts can_fail gives.
      let split = next_text c.loop-cell.yielded c.in-Some.cell c.in_ok-cell.field-0 _ c.loop-cell.cell-iterator c.next.new.self gives
      c.into_iter-cell-iterator.ensures.into_iter_gives c.loop-cell.yielded_by c.loop-cell.invariant.are c.in-Some.ensures.steps c.in_ok-cell.was in
      kept_more g.C.Cell.text c.loop-cell.row.items _ c.in_ok-cell.field-0 _ _ texts c.in_ok-push.ensures.items (c.loop-cell.invariant.left texts can_fail gives) split;
}

pub returns-clause-cells : goal.returns-clause-cells
returns-clause-cells g c =
    drained g.I.Iterator.next_gives c.args.cells _ c.loop-cell.cell-iterator c.next.new.self c.loop-cell.yielded c.loop-cell.row.items
    c.into_iter-cell-iterator.ensures.into_iter_gives c.loop-cell.yielded_by c.loop-cell.invariant.kept c.in-None.ensures.steps

pub returns-clause-texts : goal.returns-clause-texts
returns-clause-texts g c = λ texts can_fail gives.
    let none = none_text c.loop-cell.yielded _ c.loop-cell.cell-iterator c.next.new.self gives
    c.into_iter-cell-iterator.ensures.into_iter_gives c.loop-cell.yielded_by c.loop-cell.invariant.are c.in-None.ensures.steps in
    kept_all _ _ texts (c.loop-cell.invariant.left texts can_fail gives) none
