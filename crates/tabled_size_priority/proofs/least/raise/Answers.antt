use Rattle.std.proofs.Common.{ℕ, arith, get_or, length, max}
use Rattle.tabled_size_priority.specs.Laws.Lists.{from_columns}
use Rattle.tabled_size_priority.proofs.least.raise.Goals as goal

pub returns : goal.returns
returns c =
    let own = c.args.leasts.now in
    let others = c.args.others.now in
    from_columns (λ (i : ℕ). max (get_or own i 0) (get_or others i 0)) (length own) c.loop-column.leasts c.loop-column.invariant.size
    (λ i below. c.loop-column.invariant.raised i (omega (arith, c.loop-column-test.false, c.loop-column.auto.column-end)))
