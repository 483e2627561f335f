-- The settings so far were run.
use Rattle.std.proofs.Common.{take}
use Rattle.tabled_list.specs.Lists.{LeadsThrough}
use Rattle.tabled_list.proofs.setters.apply_setters.Given as goal

abbrev pub invariant-loop-index : goal.invariant-loop-index
invariant-loop-index g l = LeadsThrough (take l.index l.settings) (g.S.Adjustable.state l.initial.table) (g.S.Adjustable.state l.table)
