use Rattle.tables_laws.proofs.AdditiveLemmas.SpacingTexts.{spacing-adds, spacing-counted}
use Rattle.tables_laws.proofs.additive.spacing_tables_are_counted.Goals as goal

pub returns : goal.returns
returns c = record { texts = spacing-adds; counted = spacing-counted }
