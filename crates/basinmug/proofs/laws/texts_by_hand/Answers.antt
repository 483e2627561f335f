-- Numbers are written digit by digit.
use Rattle.std.proofs.Common.{refl}
use Rattle.std.specs.Fmt.{digits}
use Rattle.basinmug.proofs.laws.texts_by_hand.Goals as goal

pub returns-clause-no_text : goal.returns-clause-no_text
unfolding digits
returns-clause-no_text c = refl

pub returns-clause-quote : goal.returns-clause-quote
unfolding digits
returns-clause-quote c = refl
