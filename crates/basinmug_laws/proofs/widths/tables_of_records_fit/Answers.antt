use Rattle.basinmug_input.specs.Rows.{rows_in}
use Rattle.basinmug_run.specs.Kept.{kept_of}
use Rattle.basinmug_laws.proofs.WidthLemmas.RunFaults.{kept-fault}
use Rattle.basinmug_laws.proofs.widths.tables_of_records_fit.Goals as goal

pub returns-clause-kept : goal.returns-clause-kept
returns-clause-kept c = kept-fault

pub returns-clause-runs : goal.returns-clause-runs
returns-clause-runs c = λ delimiter bytes options fault refused. kept-fault options (kept_of options (rows_in options.escapes delimiter bytes)) fault refused.1
