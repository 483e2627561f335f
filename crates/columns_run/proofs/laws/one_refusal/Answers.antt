use Rattle.columns_run.proofs.Refusals.{no-table, one-refusal}
use Rattle.columns_run.proofs.laws.one_refusal.Goals as goal

pub returns : goal.returns
returns c = record { one = one-refusal; no_table = no-table }
