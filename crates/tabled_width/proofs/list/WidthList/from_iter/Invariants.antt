-- The widths are the items that came so far.
use Rattle.std.proofs.Common.{◌≡◌}
use Rattle.tabled_width.proofs.list.WidthList.from_iter.Given as goal

abbrev pub invariant-loop-width : goal.invariant-loop-width
invariant-loop-width g l = l.widths.items ≡ l.yielded
