-- The lemmas of `Longest`.
use Rattle.tabled_size_wrap.proofs.Longest.{runs-are, runs-one}
use Rattle.tabled_size_wrap.proofs.laws.one_list_of_runs.Goals as goal

pub returns-clause-there : goal.returns-clause-there
returns-clause-there c = λ width units some. runs-are width some units

pub returns-clause-one : goal.returns-clause-one
returns-clause-one c = runs-one
