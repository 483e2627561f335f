-- A lemma of `StdSplits`.
use Rattle.std.proofs.Common.{refl}
use Rattle.ansi_str_search.proofs.StdSplits as std_splits
use Rattle.ansi_str_search.proofs.laws.split_at_one_byte.Goals as goal

pub returns-clause-parts : goal.returns-clause-parts
returns-clause-parts c = std_splits.split_at_one_byte

pub returns-clause-worked : goal.returns-clause-worked
returns-clause-worked c = refl
