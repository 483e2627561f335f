use Rattle.std.proofs.Common.{◌≡◌, max, drop}
use Rattle.grid_records_estimate.specs.Estimates.{greatest}
use Rattle.columns_table.proofs.least.greatest.Given as goal

abbrev pub invariant-loop-number : goal.invariant-loop-number
invariant-loop-number l = max l.most (greatest (drop l.number-index l.numbers)) ≡ greatest l.numbers
