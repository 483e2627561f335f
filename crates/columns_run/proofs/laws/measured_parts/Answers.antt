use Rattle.columns_run.proofs.Pieces.{takes-columns, takes-measures}
use Rattle.columns_run.proofs.laws.measured_parts.Goals as goal

pub returns : goal.returns
returns c = record {
  each = λ wanted input y runnable utf8 whole. takes-columns wanted input y runnable.narrow runnable.close utf8 whole;
  default_style = takes-measures;
}
