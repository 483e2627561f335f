use Rattle.tables_laws.proofs.ShownLemmas.SizedTables.{line-sized, printed-sized}
use Rattle.tables_laws.proofs.shown.texts_in_sizes_are_those_of_tables.Goals as goal

pub returns : goal.returns
returns c = record { text = printed-sized; line = line-sized }
