use Rattle.std.proofs.Common.{◌≡◌, map, take}
use Rattle.tabled_pool.specs.Boxes.Values.{nesting_of}
use Rattle.tabled_pool.proofs.boxes.value.+copy.Given as goal

abbrev pub invariant-copy_members-loop-member : goal.invariant-copy_members-loop-member
invariant-copy_members-loop-member l = map nesting_of l.copies.items ≡ map nesting_of (take l.member-index l.member-items)
