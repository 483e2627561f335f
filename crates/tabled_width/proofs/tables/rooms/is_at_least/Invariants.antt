use Rattle.std.proofs.Common.{◌≡◌, ◌+◌, sum, take}
use Rattle.tabled_width.proofs.tables.rooms.is_at_least.Given as goal

abbrev pub invariant-loop-width : goal.invariant-loop-width
invariant-loop-width l = sum (take l.width-index l.widths) + l.left ≡ l.whole
