-- Each step is computed.
use Rattle.std.specs.Fmt.{digits}
use Rattle.std.proofs.Common.{refl}
use Rattle.basinmug_expanded.proofs.laws.names_by_hand.Goals as goal

pub returns : goal.returns
unfolding digits
returns c = record {
  header = refl;
  longer = refl;
  numbers = refl;
}
