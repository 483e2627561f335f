use Rattle.columns_laws.proofs.PlainLemmas.EvenLines.{costs-spacing, plain-input}
use Rattle.columns_laws.proofs.plain.spacing_inputs_cost_what_they_take.Goals as goal

pub returns-clause-costs : goal.returns-clause-costs
returns-clause-costs c = λ wanted input y runnable is inside. costs-spacing wanted input y runnable.narrow runnable.close is inside

pub returns-clause-plain : goal.returns-clause-plain
returns-clause-plain c = plain-input
