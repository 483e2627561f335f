use Rattle.std.proofs.Common.{refl}
use Rattle.std.specs.Str.{chars, is_utf8}
use Rattle.std.proofs.Math.Utf8.{encode}
use Rattle.basinmug_bounded.proofs.laws.lists_by_hand.Goals as goal

pub returns-clause-columns : goal.returns-clause-columns
unfolding is_utf8 chars encode
returns-clause-columns c = refl

pub returns-clause-alignments : goal.returns-clause-alignments
unfolding is_utf8 chars encode
returns-clause-alignments c = refl

pub returns-clause-colors : goal.returns-clause-colors
unfolding is_utf8 chars encode
returns-clause-colors c = refl

pub returns-clause-second : goal.returns-clause-second
unfolding is_utf8 chars encode
returns-clause-second c = ((_, refl), refl)

pub returns-clause-third : goal.returns-clause-third
unfolding is_utf8 chars encode
returns-clause-third c = ((_, refl), (_, refl), refl)
