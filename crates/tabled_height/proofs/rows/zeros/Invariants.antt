-- So many were appended.
use Rattle.std.proofs.Common.{◌≡◌, replicate}
use Rattle.tabled_height.proofs.rows.zeros.Given as goal

abbrev pub invariant-loop : goal.invariant-loop
invariant-loop l = l.zeros.items ≡ replicate l.counter 0
