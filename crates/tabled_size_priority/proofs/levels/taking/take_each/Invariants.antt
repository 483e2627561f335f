use Rattle.std.proofs.Common.{◌-◌, ℕ, get_or, length}
use Rattle.tabled_size_priority.specs.LevelRules.Moving.{moved}
use Rattle.tabled_size_priority.specs.LevelRules.Steps.{AreDone}
use Rattle.tabled_size_priority.proofs.levels.taking.take_each.Given as goal

abbrev pub invariant-loop-column : goal.invariant-loop-column
invariant-loop-column l = AreDone (λ (i : ℕ). i) (λ (i : ℕ). get_or l.fn.widths i 0) (λ (i : ℕ). get_or l.fn.widths i 0 - moved l.rule l.number (get_or l.fn.widths i 0) (get_or l.least i 0)) (length l.fn.widths) l.column l.widths
