-- The greatest number that fits is one alone.
use Rattle.basinmug_columns.proofs.Kept.{fit-same}
use Rattle.basinmug_columns.proofs.shown.count_that_fit.Goals as goal

pub returns-clause-count : goal.returns-clause-count
returns-clause-count c = fit-same c.args.frame c.args.mark c.args.costs.now c.args.width c.greatest_fit.result c.greatest_fit.ensures
