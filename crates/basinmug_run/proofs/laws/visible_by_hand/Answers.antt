-- Each is computed.
use Rattle.std.proofs.Common.{refl}
use Rattle.std.proofs.Math.Utf8.{encode}
use Rattle.std.specs.Str.{chars}
use Rattle.basinmug_run.proofs.laws.visible_by_hand.Goals as goal

pub returns : goal.returns
unfolding chars encode
returns c = record {
  nothing = refl;
  plain = refl;
  line_feed = refl;
  escape = refl;
  delete = refl;
  of_c1 = refl;
  turned = refl;
  past_controls = refl;
}
