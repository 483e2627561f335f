use Rattle.std.proofs.Common.{◌≡◌, sum, take}
use Rattle.tabled_width.proofs.tables.rooms.sum_of.Given as goal

abbrev pub invariant-loop-width : goal.invariant-loop-width
invariant-loop-width l = l.sum ≡ sum (take l.width-index l.widths)
