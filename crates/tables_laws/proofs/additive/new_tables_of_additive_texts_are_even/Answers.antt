use Rattle.tables_laws.proofs.AdditiveLemmas.NewTables.{new-even, new-plain}
use Rattle.tables_laws.proofs.additive.new_tables_of_additive_texts_are_even.Goals as goal

pub returns : goal.returns
returns c = record { plain = new-plain; even = new-even }
