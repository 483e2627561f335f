-- The heights are the items that came so far.
use Rattle.std.proofs.Common.{◌≡◌}
use Rattle.tabled_height.proofs.list.HeightList.from_iter.Given as goal

abbrev pub invariant-loop-height : goal.invariant-loop-height
invariant-loop-height g l =
    (goal.iterator-loop-height g).can_next l.height-iterator × (goal.iterator-loop-height g).is_finite l.height-iterator × (l.heights.items ≡ l.yielded)
