use Rattle.columns_run.proofs.Widths.{fitting-columns, narrowed-columns, unasked-columns}
use Rattle.columns_run.proofs.laws.tables_take_the_width_that_is_asked.Goals as goal

pub returns : goal.returns
returns c = record { narrowed = narrowed-columns; natural = fitting-columns; no_width = unasked-columns }
