-- All numbers from one on are turned.
use Rattle.std.proofs.Common.{arith, ◌-◌}
use Rattle.basinmug_cells.proofs.Numbers.{turned-are}
use Rattle.basinmug_cells.proofs.choosing.lower.Goals as goal

pub returns : goal.returns
returns c =
    let turned = c.loop-i.invariant in
    turned-are (λ number. number - c.args.by) c.args.numbers.now.items c.loop-i.numbers.items c.args.from c.requires turned.long turned.low
    (λ k past below. turned.done k past (omega (arith, below, c.loop-i-test.false, c.len-i-end.ensures, c.args.numbers.now.ok.0)))
