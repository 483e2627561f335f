-- The lemmas of `LinesAndBlocks`.
use Rattle.grid_records_measure.proofs.LinesAndBlocks.{lines-there, lines-unique}
use Rattle.grid_records_measure.proofs.laws.one_list_of_lines.Goals as goal

pub returns-clause-there : goal.returns-clause-there
returns-clause-there c = lines-there

pub returns-clause-one : goal.returns-clause-one
returns-clause-one c = lines-unique
