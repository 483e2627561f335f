-- The lemmas of `Trimmed`.
use Rattle.grid_records_measure.proofs.Trimmed.{trimmed-is, trimmed-one}
use Rattle.grid_records_measure.proofs.laws.trimmed_texts.Goals as goal

pub returns-clause-there : goal.returns-clause-there
returns-clause-there c = trimmed-is

pub returns-clause-one : goal.returns-clause-one
returns-clause-one c = trimmed-one
