use Rattle.std.proofs.Common.{◌≡◌, ◌-◌, ◌*◌, ◌^◌, ◌≤◌, sum, take}
use Rattle.grid_records_estimate.proofs.shares.sum.Given as goal

abbrev pub invariant-loop-size : goal.invariant-loop-size
invariant-loop-size l = record {
  so_far : l.sum ≡ sum (take l.size-index l.sizes);
  small : l.sum ≤ l.size-index * (2 ^ 64 - 1);
}
