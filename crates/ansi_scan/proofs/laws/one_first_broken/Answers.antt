-- The lemmas of `FirstBroken`.
use Rattle.ansi_scan.proofs.FirstBroken.{IsFirstBroken-same, IsWhole-IsFirstBroken}
use Rattle.ansi_scan.proofs.laws.one_first_broken.Goals as goal

pub returns-clause-unique : goal.returns-clause-unique
returns-clause-unique c = IsFirstBroken-same

pub returns-clause-not_whole : goal.returns-clause-not_whole
returns-clause-not_whole c = λ text at first whole. IsWhole-IsFirstBroken text at whole first
