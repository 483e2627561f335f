-- Each line is computed.
use Rattle.std.specs.Fmt.{digits}
use Rattle.std.proofs.Common.{refl}
use Rattle.basinmug_input.proofs.laws.faults_by_hand.Goals as goal

pub returns : goal.returns
unfolding digits
returns c = record {
  not_text = refl;
  quote = refl;
  escape = refl;
  memory = refl;
}
