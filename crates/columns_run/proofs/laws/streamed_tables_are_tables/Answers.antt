use Rattle.columns_run.proofs.Streamed.{accepted-streamed, output-streamed, refuses-streamed, serves-streamed}
use Rattle.columns_run.proofs.laws.streamed_tables_are_tables.Goals as goal

pub returns : goal.returns
returns c = record {
  bytes = λ wanted input alone. output-streamed wanted input alone.0 alone.1;
  accepted = λ wanted input alone. accepted-streamed wanted input alone.0 alone.1;
  refuses = λ wanted input fault alone. refuses-streamed wanted input fault alone.0 alone.1;
  serves = λ wanted input result old new alone. serves-streamed wanted input result old new alone.0 alone.1;
}
