use Rattle.std.proofs.Common.{ℕ, ◌-◌}
use Rattle.tabled_size_priority.specs.Running.{Grows}
use Rattle.tabled_size_priority.proofs.peaker.Peaker.grow.Given as goal

abbrev pub invariant-loop : goal.invariant-loop
invariant-loop g l =
    (answers : ℕ) × Grows g.Self.Peaker.peaks (record { priority = l.fn.self; widths = l.fn.widths; left = l.by }) answers
    (record { priority = l.self; widths = l.widths; left = l.by - l.counter })
