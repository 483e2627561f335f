use Rattle.basinmug_laws.proofs.AdditiveLemmas.EvenTables.{lines-cost, plain-rows}
use Rattle.basinmug_laws.proofs.additive.spacing_records_cost_what_they_take.Goals as goal

pub returns-clause-costs : goal.returns-clause-costs
returns-clause-costs c = λ options shown rows s chooses closing texts is fits. lines-cost options shown rows closing texts s chooses is fits

pub returns-clause-plain : goal.returns-clause-plain
returns-clause-plain c = plain-rows
