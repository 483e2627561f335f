use Rattle.std.proofs.Common.{◌≡◌, ◌<◌, ◌≤◌, ◌+◌, ◌-◌, ◌^◌}
use Rattle.tabled_size_priority.specs.LevelRules.Moving.{moved_sum}
use Rattle.tabled_size_priority.proofs.levels.search.number_below.Given as goal

abbrev pub invariant-loop : goal.invariant-loop
invariant-loop l = record {
  below : l.low < l.high;
  near : l.high ≤ l.low + 2 ^ (64 - l.counter);
  within : l.high ≤ 2 ^ 64;
  moved_is : l.moved ≡ moved_sum l.rule l.low l.least l.widths;
  too_little : l.moved < l.amount;
  enough : l.amount ≤ moved_sum l.rule l.high l.least l.widths;
  counted : l.walks ≡ l.counter + 1;
}
