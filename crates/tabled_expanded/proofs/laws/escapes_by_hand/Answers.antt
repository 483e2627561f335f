-- Short texts, by their characters.
use Rattle.std.proofs.Common.{refl}
use Rattle.std.specs.Str.{chars}
use Rattle.tabled_expanded.proofs.laws.escapes_by_hand.Goals as goal

pub returns-clause-own : goal.returns-clause-own
unfolding chars lib.Utf8.encode
returns-clause-own c = refl

pub returns-clause-sequence : goal.returns-clause-sequence
unfolding chars lib.Utf8.encode
returns-clause-sequence c = refl

pub returns-clause-controls : goal.returns-clause-controls
unfolding chars lib.Utf8.encode
returns-clause-controls c = refl

pub returns-clause-past_ascii : goal.returns-clause-past_ascii
unfolding chars lib.Utf8.encode
returns-clause-past_ascii c = refl
