use Rattle.std.proofs.Common.{arith}
use Rattle.grid_config_values.proofs.NewNumbers.{few_numbers, finished, next_step}
use Rattle.grid_config_values.proofs.renumbering.number_anew.Goals as goal

pub loop-least-preserved : goal.loop-least-preserved
loop-least-preserved g c =
    let l = c.loop-least in
    next_step _ _ _ _ l.columns.items l.rows.items l.cells.items l.next l.least l.invariant
    c.renumber.new.kept.items c.renumber-in-loop-least.new.kept.items c.renumber-in-loop-least-2.new.kept.items c.renumber.ensures c.renumber-in-loop-least.ensures c.renumber-in-loop-least-2.ensures
    c.loop-least-test.true c.least_of-least-in-loop-least.result
    (rw (← c.as_slice-in-loop-least.ensures.value, ← c.as_slice-in-loop-least-2.ensures.value, ← c.as_slice-in-loop-least-3.ensures.value) c.least_of-least-in-loop-least.ensures)

pub returns-clause-below : goal.returns-clause-below
returns-clause-below g c = finished _ _ _ _ _ _ _ _ _ c.loop-least.invariant c.loop-least-test.false

pub returns-clause-left : goal.returns-clause-left
returns-clause-left g c =
    let l = c.loop-least in
    omega (arith, few_numbers _ _ _ _ _ _ _ _ _ l.invariant, l.columns.ok.0, l.columns.ok.1, l.columns.small, l.rows.ok.0, l.rows.ok.1, l.rows.small, l.cells.ok.0, l.cells.ok.1, l.cells.small)
