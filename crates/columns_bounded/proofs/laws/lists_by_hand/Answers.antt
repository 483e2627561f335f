use Rattle.std.specs.Str.{chars, is_utf8}
use Rattle.std.proofs.Common.{refl}
use Rattle.std.proofs.Math.Utf8.{encode}
use Rattle.columns_bounded.proofs.laws.lists_by_hand.Goals as goal

pub returns-clause-one : goal.returns-clause-one
unfolding is_utf8 chars encode
returns-clause-one c = refl
