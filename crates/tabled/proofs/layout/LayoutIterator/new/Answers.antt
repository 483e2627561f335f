use Rattle.std.proofs.Common.{◌-◌, ap, arith, ◌∙◌}
use Rattle.tabled.specs.RowBatches.{batches, values_from}
use Rattle.tabled.proofs.Batches.{all_multiples}
use Rattle.tabled.proofs.layout.LayoutIterator.new.Goals as goal

pub returns-clause-values : goal.returns-clause-values
returns-clause-values c =
    ap (values_from 0 c.args.batch) (c.count_batches.ensures ∙ ap (λ rows. batches rows c.args.batch) c.saturating_sub.ensures)
    ∙ all_multiples (c.args.to - c.args.from) c.args.batch (omega arith)
