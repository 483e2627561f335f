-- By parts of lists.
use Rattle.basinmug_input.proofs.KeptRows.{kept-first-ones, one-run}
use Rattle.basinmug_input.proofs.laws.left_out_rows_are_one_run.Goals as goal

pub returns-clause-run : goal.returns-clause-run
returns-clause-run c choice rows = one-run choice rows

pub returns-clause-first : goal.returns-clause-first
returns-clause-first c count rows = kept-first-ones count rows
