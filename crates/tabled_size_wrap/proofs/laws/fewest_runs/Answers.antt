-- The lemmas of `Fewest`.
use Rattle.tabled_size_wrap.proofs.Fewest.{fewest, are-fitting_runs}
use Rattle.tabled_size_wrap.proofs.laws.fewest_runs.Goals as goal

pub returns-clause-joined : goal.returns-clause-joined
returns-clause-joined c = λ width units runs some are. are-fitting_runs width units runs are

pub returns-clause-fewest : goal.returns-clause-fewest
returns-clause-fewest c = fewest
