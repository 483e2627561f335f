use Rattle.std.proofs.Common.{refl}
use Rattle.std.specs.Str.{chars, is_utf8}
use Rattle.basinmug_bounded.proofs.laws.numbers_by_hand.Goals as goal

pub returns-clause-no_text : goal.returns-clause-no_text
unfolding is_utf8 chars
returns-clause-no_text c = λ read. refl
