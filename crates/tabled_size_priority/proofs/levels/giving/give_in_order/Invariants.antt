use Rattle.std.proofs.Common.{◌≡◌, ◌<◌, ◌+◌, ℕ, length, sum, get_or}
use Rattle.tabled_size_priority.specs.LevelRules.Moving.{moved, place_of}
use Rattle.tabled_size_priority.specs.LevelRules.Steps.{AreDone}
use Rattle.tabled_size_priority.proofs.levels.giving.give_in_order.Given as goal

abbrev pub invariant-loop-place : goal.invariant-loop-place
invariant-loop-place l = record {
  done : AreDone (place_of l.order (length l.fn.widths)) (λ (i : ℕ). get_or l.fn.widths i 0) (λ (i : ℕ). get_or l.fn.widths i 0 + moved l.rule l.number (get_or l.fn.widths i 0) 0) (length l.fn.widths) l.place l.widths;
  sums : sum l.widths + l.left ≡ sum l.fn.widths + l.fn.amount;
  some : 0 < l.left;
}
