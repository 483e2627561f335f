use Rattle.columns_run.proofs.Pictures.{output-shows_table}
use Rattle.columns_run.proofs.laws.table_shown.Goals as goal

pub returns : goal.returns
returns c = λ wanted input runnable utf8 whole. output-shows_table wanted input runnable.narrow runnable.close utf8 whole
