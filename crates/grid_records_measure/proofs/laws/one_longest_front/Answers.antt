-- The lemmas of `Filling`.
use Rattle.grid_records_measure.specs.Filling.{fitting_front, behind_front}
use Rattle.grid_records_measure.proofs.Filling.{IsLongestFront-fitting_front, IsLongestFront-unique}
use Rattle.grid_records_measure.proofs.laws.one_longest_front.Goals as goal

pub returns-clause-there : goal.returns-clause-there
returns-clause-there c = λ width characters. (fitting_front width 0 characters, behind_front width 0 characters, IsLongestFront-fitting_front width characters)

pub returns-clause-one : goal.returns-clause-one
returns-clause-one c = IsLongestFront-unique
