-- Each step is computed.
use Rattle.std.specs.Fmt.{digits}
use Rattle.std.proofs.Common.{refl}
use Rattle.basinmug_expanded.proofs.laws.rules_by_hand.Goals as goal

pub returns : goal.returns
unfolding digits
returns c = record {
  whole = refl;
  crossed = refl;
  just_behind = refl;
  taken = refl;
  tenth = refl;
  cut = refl;
}
