use Rattle.tables_laws.proofs.ShownLemmas.AllEven.{all-even, plainly-counted, texts-add}
use Rattle.tables_laws.proofs.ShownLemmas.ClosingCounts.{plain-counted}
use Rattle.tables_laws.proofs.ShownLemmas.EvenLines.{line-columns}
use Rattle.tables_laws.proofs.shown.lines_of_tables_are_even.Goals as goal

pub returns : goal.returns
returns c = record { columns = line-columns; all = all-even; texts = texts-add; plain = plain-counted; plainly = plainly-counted }
