use Rattle.std.proofs.Common.{◌-◌, ◌^◌}
use Rattle.grid_config_values.proofs.NewNumbers.{AreUnderWay}
use Rattle.grid_config_values.proofs.renumbering.number_anew.Given as goal

abbrev pub invariant-loop-least : goal.invariant-loop-least
invariant-loop-least g l = AreUnderWay (2 ^ 128 - 1) l.initial.columns.items l.initial.rows.items l.initial.cells.items l.columns.items l.rows.items l.cells.items l.next l.least

abbrev pub decreases-loop-least : goal.decreases-loop-least
decreases-loop-least g l = 2 ^ 128 - l.next
