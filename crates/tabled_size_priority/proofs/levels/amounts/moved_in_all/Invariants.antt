use Rattle.std.proofs.Common.{◌≡◌, ◌≤◌, ◌^◌, ◌*◌, ℕ, map, sum, get_or}
use Rattle.std.specs.List.{range_with_len}
use Rattle.tabled_size_priority.specs.LevelRules.Moving.{moved}
use Rattle.tabled_size_priority.proofs.levels.amounts.moved_in_all.Given as goal

abbrev pub invariant-loop-column : goal.invariant-loop-column
invariant-loop-column l = record {
  is_sum : l.sum ≡ sum (map (λ (column : ℕ). moved l.rule l.number (get_or l.widths column 0) (get_or l.least column 0)) (range_with_len 0 l.column));
  fits : l.sum ≤ l.column * 2 ^ 64;
}
