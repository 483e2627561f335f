use Rattle.std.proofs.Common.{◌≡◌, ◌+◌, ◌<◌, ◌^◌, sum, take}
use Rattle.tabled_size_priority_tests.proofs.sums.fits.Given as goal

abbrev pub invariant-loop-width : goal.invariant-loop-width
invariant-loop-width l = (l.total ≡ l.more + sum (take l.width-index l.widths)) × (l.total < 2 ^ 64)
