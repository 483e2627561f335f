use Rattle.std.proofs.Common.{refl}
use Rattle.ansi_str.proofs.laws.worked_keeping.Goals as goal

pub returns-clause-prefix : goal.returns-clause-prefix
returns-clause-prefix c = refl

pub returns-clause-suffix : goal.returns-clause-suffix
returns-clause-suffix c = refl

pub returns-clause-nothing : goal.returns-clause-nothing
returns-clause-nothing c = refl

pub returns-clause-trimmed : goal.returns-clause-trimmed
returns-clause-trimmed c = refl
