use Rattle.std.proofs.Common.{◌≡◌, ◌+◌, map, take}
use Rattle.tabled_compact.proofs.iter.padded.sums.Given as goal

abbrev pub invariant-loop-size : goal.invariant-loop-size
invariant-loop-size l = l.sums.items ≡ map (λ size. size + (l.before + l.behind)) (take l.size-index l.sizes)
