use Rattle.std.proofs.Common.{◌≡◌, ◌+◌, [], ◌∷◌, ◌++◌, drop, length, ap, sym, ◌∙◌, refl, arith, length-append}
use Rattle.std.proofs.lemmas.List.{length-map}
use Rattle.grid_records_traits.specs.Rows.{evened, evened_row}
use Rattle.grid_records_traits.proofs.Loops.{next_given, none_given}
use Rattle.grid_records_estimate.proofs.OneCellRead.{TableRead-all, TableRead-more, more_than, no_more_than, row_counted}
use Rattle.grid_records_estimate.proofs.collected.collect.Goals as goal

pub collect_row-requires-clause-can : goal.collect_row-requires-clause-can
collect_row-requires-clause-can g c =
    let n = next_given c.loop-cells.yielded c.in-Some.cells _ c.loop-cells.cells-iterator c.next.new.self c.iter_rows-cells-items.ensures
    c.into_iter-cells-iterator.ensures.into_iter_gives c.loop-cells.yielded_by c.in-Some.ensures.steps in
    n.tied.can_next

pub collect_row-requires-clause-ends : goal.collect_row-requires-clause-ends
collect_row-requires-clause-ends g c =
    let n = next_given c.loop-cells.yielded c.in-Some.cells _ c.loop-cells.cells-iterator c.next.new.self c.iter_rows-cells-items.ensures
    c.into_iter-cells-iterator.ensures.into_iter_gives c.loop-cells.yielded_by c.in-Some.ensures.steps in
    n.tied.ends

pub collect_row-requires-clause-counted : goal.collect_row-requires-clause-counted
collect_row-requires-clause-counted g c =
    let n = next_given c.loop-cells.yielded c.in-Some.cells _ c.loop-cells.cells-iterator c.next.new.self c.iter_rows-cells-items.ensures
    c.into_iter-cells-iterator.ensures.into_iter_gives c.loop-cells.yielded_by c.in-Some.ensures.steps in
    let columns = g.R.RecordColumns.columns c.args.records in
    let counted : length n.element ≡ columns = row_counted columns (g.R.RecordTexts.rows c.args.records) (length c.loop-cells.yielded) n.element _ n.next in
    (n.element, g.R.RecordTexts.can_fail c.args.records, n.tied, omega (arith, counted, c.requires))

pub loop-cells-init : goal.loop-cells-init
loop-cells-init g c = record { row_is = refl; inside = omega arith; read = λ h. record { done = []; read = h; rest = refl } }

pub loop-cells-preserved : goal.loop-cells-preserved
loop-cells-preserved g c =
    let n = next_given c.loop-cells.yielded c.in-Some.cells _ c.loop-cells.cells-iterator c.next.new.self c.iter_rows-cells-items.ensures
    c.into_iter-cells-iterator.ensures.into_iter_gives c.loop-cells.yielded_by c.in-Some.ensures.steps in
    let rows = evened (g.R.RecordColumns.columns c.args.records) (g.R.RecordTexts.rows c.args.records) in
    let sizing = g.S.Sizing.sizing c.args.cfg.now in
    let longer : length (c.loop-cells.yielded ++ c.in-Some.cells ∷ []) ≡ length c.loop-cells.yielded + 1 = length-append c.loop-cells.yielded (c.in-Some.cells ∷ []) in
    record {
      row_is = c.in_ok-next.ensures ∙ ap (λ k. k + 1) c.loop-cells.invariant.row_is ∙ sym longer;
      inside = more_than rows (length c.loop-cells.yielded) _ n.element _ longer n.next;
      read = λ h.
          let old = c.loop-cells.invariant.read h in
          TableRead-more sizing c.loop-cells.widths c.loop-cells.heights c.collect_row.new.widths c.collect_row.new.heights c.loop-cells.row c.in_ok-next.next n.element
          (drop (length c.loop-cells.yielded) rows) (drop (length (c.loop-cells.yielded ++ c.in-Some.cells ∷ [])) rows) rows old n.next c.in_ok-next.ensures
          (c.in_ok-collect_row.ensures n.element _ old.done n.tied old.read);
    }

pub returns-clause-rows : goal.returns-clause-rows
returns-clause-rows g c =
    let none = none_given c.loop-cells.yielded _ c.loop-cells.cells-iterator c.next.new.self c.iter_rows-cells-items.ensures
    c.into_iter-cells-iterator.ensures.into_iter_gives c.loop-cells.yielded_by c.in-None.ensures.steps in
    let rows = evened (g.R.RecordColumns.columns c.args.records) (g.R.RecordTexts.rows c.args.records) in
    c.loop-cells.invariant.row_is ∙ no_more_than rows (length c.loop-cells.yielded) c.loop-cells.invariant.inside none
    ∙ length-map (g.R.RecordTexts.rows c.args.records) (evened_row (g.R.RecordColumns.columns c.args.records))

pub returns-clause-read : goal.returns-clause-read
returns-clause-read g c = λ h.
    let none = none_given c.loop-cells.yielded _ c.loop-cells.cells-iterator c.next.new.self c.iter_rows-cells-items.ensures
    c.into_iter-cells-iterator.ensures.into_iter_gives c.loop-cells.yielded_by c.in-None.ensures.steps in
    let rows = evened (g.R.RecordColumns.columns c.args.records) (g.R.RecordTexts.rows c.args.records) in
    TableRead-all (g.S.Sizing.sizing c.args.cfg.now) c.loop-cells.widths c.loop-cells.heights c.loop-cells.row (drop (length c.loop-cells.yielded) rows) rows (c.loop-cells.invariant.read h) none
