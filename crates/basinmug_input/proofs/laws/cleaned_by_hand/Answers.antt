-- Each is computed.
use Rattle.std.proofs.Common.{refl}
use Rattle.std.proofs.Math.Utf8.{encode}
use Rattle.basinmug_input.proofs.laws.cleaned_by_hand.Goals as goal

pub returns : goal.returns
unfolding encode
returns c = record {
  tab = refl;
  line_feed = refl;
  both_ends = refl;
  one_return = refl;
  two_returns = refl;
  bell = refl;
  delete = refl;
  of_c1 = refl;
  other = refl;
  first_control = refl;
  last_of_c0 = refl;
  tilde = refl;
  ends_of_c1 = refl;
  embedding = refl;
  isolating = refl;
  beside_these = refl;
  right_to_left = refl;
}
