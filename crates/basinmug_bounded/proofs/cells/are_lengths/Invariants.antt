-- The lengths so far and the bytes that are left are all.
use Rattle.std.proofs.Common.{◌≡◌, ◌+◌, sum, take}
use Rattle.basinmug_bounded.proofs.cells.are_lengths.Given as goal

abbrev pub invariant-loop-count : goal.invariant-loop-count
invariant-loop-count l = sum (take l.count-index l.lengths) + l.left ≡ l.total
