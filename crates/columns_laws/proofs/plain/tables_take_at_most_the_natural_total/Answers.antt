use Rattle.columns_laws.proofs.PlainLemmas.Totals.{total-asked}
use Rattle.columns_laws.proofs.plain.tables_take_at_most_the_natural_total.Goals as goal

pub returns : goal.returns
returns c = total-asked
