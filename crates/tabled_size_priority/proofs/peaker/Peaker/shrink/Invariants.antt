use Rattle.std.proofs.Common.{ℕ, suc, ◌+◌, ◌-◌, ◌*◌, length, min}
use Rattle.tabled_size_priority.specs.Running.{Leads}
use Rattle.tabled_size_priority.specs.Shrinking.{gap_sum}
use Rattle.tabled_size_priority.proofs.peaker.Peaker.shrink.Given as goal

abbrev pub invariant-loop-left : goal.invariant-loop-left
invariant-loop-left g l =
    (answers : ℕ) × Leads g.Self.Peaker.peaks l.least (record { priority = l.fn.self; widths = l.fn.widths; left = min l.by (gap_sum l.least l.fn.widths); fruitless = 0 }) answers
    (record { priority = l.self; widths = l.widths; left = l.left; fruitless = l.fruitless })

abbrev pub decreases-loop-left : goal.decreases-loop-left
decreases-loop-left g l = l.left * suc (length l.widths) + (length l.widths - l.fruitless)
