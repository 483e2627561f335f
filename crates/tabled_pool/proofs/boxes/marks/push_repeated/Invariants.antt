use Rattle.std.proofs.Common.{◌≡◌, ◌++◌, replicate}
use Rattle.tabled_pool.proofs.boxes.marks.push_repeated.Given as goal

abbrev pub invariant-loop : goal.invariant-loop
invariant-loop l = l.found.items ≡ l.fn.found.items ++ replicate l.counter l.mark
