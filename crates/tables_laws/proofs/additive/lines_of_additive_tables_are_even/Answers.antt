use Rattle.tables_laws.proofs.AdditiveLemmas.MeasuredLines.{all-measure, line-measures}
use Rattle.tables_laws.proofs.AdditiveLemmas.NewTables.{new-ones}
use Rattle.tables_laws.proofs.additive.lines_of_additive_tables_are_even.Goals as goal

pub returns : goal.returns
returns c = record { columns = line-measures; all = all-measure; new = new-ones }
