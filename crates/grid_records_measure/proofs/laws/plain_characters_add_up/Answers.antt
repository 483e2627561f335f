-- The lemmas of `Plain`.
use Rattle.std.proofs.Common.{◌∙◌, sym}
use Rattle.grid_records_measure.proofs.Plain.{one-column, two-columns, measure-plain, line_cost-plain}
use Rattle.grid_records_measure.proofs.laws.plain_characters_add_up.Goals as goal

pub returns-clause-one : goal.returns-clause-one
returns-clause-one c = one-column

pub returns-clause-two : goal.returns-clause-two
returns-clause-two c = two-columns

pub returns-clause-sum : goal.returns-clause-sum
returns-clause-sum c = measure-plain

pub returns-clause-costs : goal.returns-clause-costs
returns-clause-costs c = λ cs all. line_cost-plain cs all ∙ sym (measure-plain cs all)
