use Rattle.std.proofs.Common.{◌+◌, [], ◌∷◌, ◌++◌, ap, arith, drop, length, length-append, refl, subst, sym, ◌∙◌}
use Rattle.grid_config_values.specs.declared.position.Position.{Position}
use Rattle.grid_records_estimate.specs.CollectedNeeds.{HasRead}
use Rattle.grid_records_traits.proofs.Loops.{cells_more, next_text, none_text}
use Rattle.grid_records_estimate.proofs.OneCellRead.{RowRead-all, RowRead-more, RowRead-none, more_than}
use Rattle.grid_records_estimate.proofs.collected.collect_row.Goals as goal

pub loop-cell-init : goal.loop-cell-init
loop-cell-init g c = (tt, refl, λ texts can_fail before gives h. RowRead-none _ _ _ before c.args.row texts h)

pub collect_cell-requires-clause-column : goal.collect_cell-requires-clause-column
collect_cell-requires-clause-column g c =
    let given = c.requires.counted in
    let split = next_text c.loop-cell.yielded c.in-Some.cell c.in_ok-cell.field-0 _ c.loop-cell.cell-iterator c.next.new.self given.2
    c.into_iter-cell-iterator.ensures.into_iter_gives c.loop-cell.yielded_by c.loop-cell.invariant.0 c.in-Some.ensures.steps c.in_ok-cell.was in
    rw c.new.ensures (omega (arith, c.loop-cell.invariant.1, more_than given.0 (length c.loop-cell.yielded) (length c.loop-cell.yielded + 1) _ _ refl split, given.3))

pub overflow_add-column : goal.overflow_add-column
overflow_add-column g c =
    let given = c.requires.counted in
    let split = next_text c.loop-cell.yielded c.in-Some.cell c.in_ok-cell.field-0 _ c.loop-cell.cell-iterator c.next.new.self given.2
    c.into_iter-cell-iterator.ensures.into_iter_gives c.loop-cell.yielded_by c.loop-cell.invariant.0 c.in-Some.ensures.steps c.in_ok-cell.was in
    omega (arith, c.loop-cell.invariant.1, more_than given.0 (length c.loop-cell.yielded) (length c.loop-cell.yielded + 1) _ _ refl split, given.3)

pub loop-cell-preserved : goal.loop-cell-preserved
loop-cell-preserved g c = (
  cells_more c.loop-cell.yielded c.in-Some.cell c.in_ok-cell.field-0 c.loop-cell.invariant.0 c.in_ok-cell.was,
  ap (λ k. k + 1) c.loop-cell.invariant.1 ∙ sym (length-append c.loop-cell.yielded (c.in-Some.cell ∷ [])),
  λ texts can_fail before gives h.
      let sizing = g.S.Sizing.sizing c.args.cfg.now in
      let old = c.loop-cell.invariant.2 texts can_fail before gives h in
      let split = next_text c.loop-cell.yielded c.in-Some.cell c.in_ok-cell.field-0 _ c.loop-cell.cell-iterator c.next.new.self gives
      c.into_iter-cell-iterator.ensures.into_iter_gives c.loop-cell.yielded_by c.loop-cell.invariant.0 c.in-Some.ensures.steps c.in_ok-cell.was in
      let P : Position → Type 0 = λ pos. HasRead sizing c.collect_cell.new.widths c.collect_cell.new.heights ((before ++ old.done) ++ (pos, g.C.Cell.text c.in_ok-cell.field-0) ∷ []) in
      let read = subst P c.new.ensures (c.in_ok-collect_cell.ensures (before ++ old.done) old.read) in
      RowRead-more sizing c.loop-cell.widths c.loop-cell.heights c.collect_cell.new.widths c.collect_cell.new.heights before c.args.row c.loop-cell.column _
      (g.C.Cell.text c.in_ok-cell.field-0) (drop (length c.loop-cell.yielded) texts) (drop (length (c.loop-cell.yielded ++ c.in-Some.cell ∷ [])) texts) texts old split refl read,
)

pub returns : goal.returns
returns g c = λ texts can_fail before gives h.
    let none = none_text c.loop-cell.yielded _ c.loop-cell.cell-iterator c.next.new.self gives
    c.into_iter-cell-iterator.ensures.into_iter_gives c.loop-cell.yielded_by c.loop-cell.invariant.0 c.in-None.ensures.steps in
    RowRead-all _ _ _ before c.args.row c.loop-cell.column _ texts (c.loop-cell.invariant.2 texts can_fail before gives h) none
